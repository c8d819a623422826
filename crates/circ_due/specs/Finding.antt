-- The rules whose left sides match, one after the other.
use Rattle.std.specs.Prelude.{◌≡◌, ◌≤◌, ◌<◌, ℕ, false, List, length, Option, Some, None}
use Rattle.std.specs.List.{slice_get}
use Rattle.circ_term.specs.Tree.{Tree}
use Rattle.circ_rewrite.specs.Matching.{matches}
use Rattle.circ_rewrite.specs.declared.parts.Rule.{Rule}
use Rattle.circ_due.specs.Chosen.{IsFit}
use Rattle.circ_due.specs.declared.choice.Bound.{Bound}

-- of the rules at the places from `from` on and before `to`, none has a left side that matches
abbrev pub NoneFits : List Rule → (t : Tree) → (from to : ℕ) → Type 0
NoneFits rules t from to = (n : ℕ) (rule : Rule) → from ≤ n → n < to → slice_get rules n ≡ Some rule → matches rule.left t ≡ false

-- the first rule from a place on whose left side matches, by its place, with what its variables are given; or that there is none
abbrev pub FindsRule : {X : Type 0} → (X → List Bound) → (nodes : List Tree) → List Rule → (t : Tree) → (from : ℕ) → Option (ℕ × X) → Type 0
FindsRule view nodes rules t from None = NoneFits rules t from (length rules)
FindsRule view nodes rules t from (Some p) =
    (from ≤ p.0) × ((rule : Rule) × (slice_get rules p.0 ≡ Some rule) × IsFit nodes rule t (view p.1)) × NoneFits rules t from p.0

-- the same by its place alone, where its variables are given these
abbrev pub FindsFit : (nodes : List Tree) → List Rule → (t : Tree) → (from : ℕ) → List Bound → Option ℕ → Type 0
FindsFit nodes rules t from given None = NoneFits rules t from (length rules)
FindsFit nodes rules t from given (Some n) =
    (from ≤ n) × ((rule : Rule) × (slice_get rules n ≡ Some rule) × IsFit nodes rule t given) × NoneFits rules t from n
