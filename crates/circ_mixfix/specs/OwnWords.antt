-- Signatures over which a printed text is the text of one term.
use Rattle.std.specs.Prelude.{◌≡◌, ◌≢◌, ◌<◌, ℕ, List, [], ◌∷◌, codes}
use Rattle.std.specs.List.{Contains}
use Rattle.circ_term.specs.Tree.{Tree, Trees, Var, App, none, more}
use Rattle.circ_form.specs.declared.forms.Piece.{Piece}
use Rattle.circ_form.specs.declared.forms.Piece.TheVariants.{Hole, Word}
use Rattle.circ_theory.specs.Signature.{Signature, Operator}
use Rattle.circ_theory.specs.Theory.{Declared, Pair, IsWellSortedPair}
use Rattle.circ_theory.specs.Names.{AreDifferent}
use Rattle.circ_theory.specs.Operators.{IsOperator, AreDifferentOperators}
use Rattle.circ_mixfix.specs.Printed.{IsPrintable}

-- no two holes stand side by side
abbrev pub HolesApart : List Piece → Type 0
HolesApart [] = Unit {0}
HolesApart (Word w ∷ ps) = HolesApart ps
HolesApart (Hole ∷ []) = Unit {0}
HolesApart (Hole ∷ Hole ∷ ps) = ⊥
HolesApart (Hole ∷ Word w ∷ ps) = HolesApart ps

-- Operators that share a word have one form, and in no form do two holes stand side by side.
pub record HaveOwnWords (sig : Signature) : Type 0 where
  pub own : (o p : Operator) (w : List ℕ) → Contains sig.ops o → Contains sig.ops p → Contains o.form (Word w) → Contains p.form (Word w) → o.form ≡ p.form
  pub apart : (o : Operator) → Contains sig.ops o → HolesApart o.form

-- What is printed is the text of one term: it spells it, operators have words of their own, and the rest is so in each theory.
pub record IsReadBack (sig : Signature) : Type 0 where
  pub printable : IsPrintable sig
  pub words : HaveOwnWords sig
  pub operators : (o : Operator) → Contains sig.ops o → IsOperator sig o
  pub different : AreDifferentOperators sig.ops
  pub sorts : AreDifferent sig.sorts

-- No declared variable has the name of an operator's word, or a comma for its name.
abbrev pub AreNoWords : Signature → List Declared → Type 0
AreNoWords sig vars = (d : Declared) → Contains vars d → (d.name ≢ codes ",") × ((o : Operator) → Contains sig.ops o → Contains o.form (Word d.name) → ⊥)

-- the numbers of the variables have 32 bits, as those of each term of the program have
abbrev mutual
  pub IsNumbered : Tree → Type 0
  IsNumbered (Var n s) = n < 4294967296
  IsNumbered (App f s ts) = AreAllNumbered ts

  pub AreAllNumbered : Trees → Type 0
  AreAllNumbered none = Unit {0}
  AreAllNumbered (more t ts) = IsNumbered t × AreAllNumbered ts

-- a well-sorted pair of such terms
pub record IsNumberedPair (sig : Signature) (p : Pair) : Type 0 where
  pub sorted : IsWellSortedPair sig p
  pub left : IsNumbered p.left
  pub right : IsNumbered p.right
