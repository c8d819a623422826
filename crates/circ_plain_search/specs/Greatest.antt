-- The greatest special set of a theory (`GreatestSpecialSet`; this project's own).
use Rattle.std.specs.Prelude.{◌≡◌, ℕ, List, [], ◌∷◌}
use Rattle.std.specs.List.{Contains}
use Rattle.circ_term.specs.Tree.{Tree}
use Rattle.circ_term.specs.Limits.{IsWithinLimits}
use Rattle.circ_theory.specs.Theory.{Theory, Derivative}
use Rattle.circ_special.specs.declared.place.Place.{Place}
use Rattle.circ_special.specs.Special.{IsPlace, IsIncreasing, IsWithin}
use Rattle.circ_special.specs.Guarded.{Guarded}
use Rattle.circ_rewrite.specs.Norm.{Normal_form}
use Rattle.circ_rewrite.specs.Replacement.{Traced}
use Rattle.circ_proof.specs.Certified.{start_term, derivatives_at, due}
use Rattle.circ_rewrite.specs.TheoryRules.{theory_rules}
use Rattle.circ_conditional_norm.specs.Norm.{conditional_norm}

-- The start term of a place and a derivative is within the limits, and the theory's rules, with this budget for it alone, lead it to this normal
-- form by these traces.
pub record HasNormalForm (th : Theory) (budget : ℕ) (g : Place) (d : Derivative) (normal : Tree) (traces : List Traced) : Type 0 where
  pub place : IsPlace th g
  pub within : IsWithinLimits (start_term place.operator g d)
  pub left : ℕ
  pub form : conditional_norm 0 th.signature (theory_rules th) [] budget (start_term place.operator g d) ≡ Normal_form normal traces left

-- A candidate is a place each of whose start terms has a normal form: one for each derivative of its result sort.
pub record IsCandidate (th : Theory) (budget : ℕ) (g : Place) : Type 0 where
  pub place : IsPlace th g
  pub normal_forms : (d : Derivative) → Contains (derivatives_at th g) d
      → (normal : Tree) × (traces : List Traced) × HasNormalForm th budget g d normal traces

-- A set of candidates is self-guarded where each normal form of their start terms is guarded by that set in variable 0.
pub record IsSelfGuarded (th : Theory) (budget : ℕ) (G : List Place) : Type 0 where
  pub candidates : (g : Place) → Contains G g → IsCandidate th budget g
  pub guarded : (g : Place) → Contains G g → (d : Derivative) → Contains (derivatives_at th g) d
      → (normal : Tree) (traces : List Traced) → (h : HasNormalForm th budget g d normal traces) → Guarded th G normal 0 h.place.sort

-- these are the traces of the start terms of what is due, in that order
abbrev pub AreTraces : Theory → (budget : ℕ) → List (Place × Derivative) → List (List Traced) → Type 0
AreTraces th budget [] [] = Unit {0}
AreTraces th budget [] (ts ∷ tss) = ⊥
AreTraces th budget (x ∷ xs) [] = ⊥
AreTraces th budget (x ∷ xs) (ts ∷ tss) =
    ((normal : Tree) × HasNormalForm th budget x.0 x.1 normal ts) × AreTraces th budget xs tss

-- The greatest special set is the self-guarded set that contains every self-guarded set, in increasing order; with it go the traces of its start terms.
pub record GreatestSpecialSet (th : Theory) (budget : ℕ) (places : List Place) (traces : List (List Traced)) : Type 0 where
  pub increasing : IsIncreasing places
  pub self_guarded : IsSelfGuarded th budget places
  pub greatest : (F : List Place) → IsSelfGuarded th budget F → IsWithin F places
  pub recorded : AreTraces th budget (due th places) traces
