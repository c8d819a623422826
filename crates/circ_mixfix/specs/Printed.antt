-- What printed text spells.
use Rattle.std.specs.Prelude.{◌≡◌, ◌≢◌, ℕ, ◌<◌, List, [], ◌∷◌, ◌++◌, Bool, true, false, codes, decimal, ◌==◌, ◌&&◌, if◌then◌else◌}
use Rattle.std.specs.List.{list_all, Contains}
use Rattle.circ_lexer.specs.Bytes.{is_plain, begins_comment}
use Rattle.circ_lexer.specs.TokenList.{AreTokens}
use Rattle.circ_term.specs.Tree.{Tree, Trees, Var, App, none, more, sort_of}
use Rattle.circ_form.specs.declared.forms.Piece.TheVariants.{Word}
use Rattle.circ_theory.specs.declared.parts.Side.TheVariants.{Neither}
use Rattle.circ_form.specs.Form.{is_reserved}
use Rattle.circ_theory.specs.Signature.{Signature, Operator}
use Rattle.circ_theory.specs.Theory.{Declared, Pair}
use Rattle.circ_form.specs.Form.{has_hole}
use Rattle.circ_mixfix.specs.Named.{Named, NamedList, Variable, Applied, no_terms, terms}
use Rattle.circ_mixfix.specs.Symbols.{every}
use Rattle.circ_mixfix.specs.Spells.{HasNoColon, Spells}
use Rattle.circ_mixfix.specs.Printing.{text_of_term, text_of_pair}

-- A name in a text: one token that is no special byte, without ':', and not '.', '=' or '->'.
pub record IsName (w : List ℕ) : Type 0 where
  pub some : w ≢ []
  pub plain : list_all is_plain w ≡ true
  pub no_comment : begins_comment w ≡ false
  pub no_colon : HasNoColon w
  pub not_reserved : is_reserved w ≡ false

-- No word of the operator begins as a comment. With holes its precedence is below every one, and above 0 where it groups to a side.
pub record IsPrintableOperator (o : Operator) : Type 0 where
  pub words : (w : List ℕ) → Contains o.form (Word w) → begins_comment w ≡ false
  pub below : has_hole o.form ≡ true → o.prec < every
  pub sided : has_hole o.form ≡ true → o.side ≢ Neither → 0 < o.prec

-- Terms of the signature are spelled by what is printed: each sort has a name, and each operator is printable.
pub record IsPrintable (sig : Signature) : Type 0 where
  pub sorts : (w : List ℕ) → Contains sig.sorts w → IsName w
  pub ops : (o : Operator) → Contains sig.ops o → IsPrintableOperator o

-- the name that is spelled for a variable; where there is a hole, it is variable 0, and has the empty name
abbrev pub spelled_name : Bool → ℕ → List ℕ
spelled_name hole n = if hole && (n == 0) then [] else codes "V" ++ decimal n

-- the term with the names that are printed
abbrev mutual
  pub named_term : Bool → Tree → Named
  named_term hole (Var n s) = Variable (spelled_name hole n) s
  named_term hole (App f s ts) = Applied f s (named_terms hole ts)

  pub named_terms : Bool → Trees → NamedList
  named_terms hole none = no_terms
  named_terms hole (more t ts) = terms (named_term hole t) (named_terms hole ts)

-- The text of a term is cut into tokens that spell it wherever anything is spelled: at each bound above 0, with any declared variables.
pub record IsSpelling (sig : Signature) (hole : Bool) (t : Tree) : Type 0 where
  pub tokens : List (List ℕ)
  pub cut : AreTokens (text_of_term sig hole t) tokens
  pub spells : (vars : List Declared) (b : ℕ) → 0 < b → Spells sig vars hole b (sort_of t) tokens (named_term hole t)

-- The text of a pair is cut into tokens that spell its sides, and '=' between them.
pub record IsPairSpelling (sig : Signature) (p : Pair) : Type 0 where
  pub left : List (List ℕ)
  pub right : List (List ℕ)
  pub cut : AreTokens (text_of_pair sig p) (left ++ codes "=" ∷ right)
  pub spells_left : (vars : List Declared) (b : ℕ) → 0 < b → Spells sig vars false b (sort_of p.left) left (named_term false p.left)
  pub spells_right : (vars : List Declared) (b : ℕ) → 0 < b → Spells sig vars false b (sort_of p.right) right (named_term false p.right)
