-- Many-sorted signatures, and terms that are well-sorted under one.
use Rattle.std.specs.Prelude.{◌≡◌, ℕ, ◌<◌, List, [], ◌∷◌, Some, Bool, length}
use Rattle.std.specs.List.{slice_get}
use Rattle.circ_term.specs.Tree.{Tree, Trees, Var, App, none, more, sort_of}
use Rattle.circ_term.specs.Substitution.{Substitution}
use Rattle.circ_form.specs.declared.forms.Piece.{Piece}
use Rattle.circ_theory.specs.declared.parts.Side.{Side}

-- An operator has a form, the sorts of its arguments and of its result, a precedence with a side, and three marks.
pub record Operator : Type 0 where
  pub form : List Piece
  pub args : List ℕ
  pub result : ℕ
  pub prec : ℕ
  pub side : Side
  pub assoc : Bool
  pub comm : Bool
  pub idem : Bool

-- Sorts by their names, and operators. Both are numbered from 0.
pub record Signature : Type 0 where
  pub sorts : List (List ℕ)
  pub ops : List Operator

abbrev pub IsSort : Signature → ℕ → Type 0
IsSort sig s = s < length sig.sorts

-- A variable has a sort of the signature. An application has an operator of the signature, the operator's result sort, and arguments of the operator's sorts.
abbrev mutual
  pub IsWellSorted : Signature → Tree → Type 0
  IsWellSorted sig (Var n s) = IsSort sig s
  IsWellSorted sig (App f s ts) = (o : Operator) × (slice_get sig.ops f ≡ Some o) × (o.result ≡ s) × HaveSorts sig ts o.args

  pub HaveSorts : Signature → Trees → List ℕ → Type 0
  HaveSorts sig none [] = Unit {0}
  HaveSorts sig none (s ∷ ss) = ⊥
  HaveSorts sig (more t ts) [] = ⊥
  HaveSorts sig (more t ts) (s ∷ ss) = (sort_of t ≡ s) × IsWellSorted sig t × HaveSorts sig ts ss

-- Each variable of a sort of the signature is given a well-sorted term of that sort.
abbrev pub IsSubstitution : Signature → Substitution → Type 0
IsSubstitution sig σ = (n s : ℕ) → IsSort sig s → (sort_of (σ n s) ≡ s) × IsWellSorted sig (σ n s)
