-- What the parts of a rewriting answer.
use Rattle.std.specs.Prelude.{◌≡◌, ℕ, List, [], ◌∷◌, map, Option, Some, None}
use Rattle.circ_term.specs.Tree.{Tree, replaced}
use Rattle.circ_term.specs.Limits.{IsWithinLimits}
use Rattle.circ_term.specs.Substitution.{Substitution, instance}
use Rattle.circ_theory.specs.Theory.{Pair, instance_pair}
use Rattle.circ_theory.specs.Rewriting.{Replaces}

-- the instance of t, or that it passes a limit
abbrev pub GivesInstance : Substitution → Tree → Option Tree → Type 0
GivesInstance σ t None = IsWithinLimits (instance σ t) → ⊥
GivesInstance σ t (Some u) = (u ≡ instance σ t) × IsWithinLimits u

-- both sides of each pair under the substitution are within the limits
abbrev pub AreWithin : Substitution → List Pair → Type 0
AreWithin σ [] = Unit {0}
AreWithin σ (p ∷ ps) = (IsWithinLimits (instance σ p.left) × IsWithinLimits (instance σ p.right)) × AreWithin σ ps

-- the instances of the pairs, or that one of them passes a limit
abbrev pub GivesPairs : Substitution → List Pair → Option (List Pair) → Type 0
GivesPairs σ E None = AreWithin σ E → ⊥
GivesPairs σ E (Some ps) = AreWithin σ E × (ps ≡ map (instance_pair σ) E)

-- the term with new at the path, or that there is none within the limits
abbrev pub GivesReplaced : Tree → (path : List ℕ) → (new : Tree) → Option Tree → Type 0
GivesReplaced t path new None = (u : Tree) → replaced t path new ≡ Some u → IsWithinLimits u → ⊥
GivesReplaced t path new (Some u) = (replaced t path new ≡ Some u) × IsWithinLimits u

-- the one term in which new replaces old, which stands at the path, or that there is none
abbrev pub GivesExchange : Tree → (path : List ℕ) → (old new : Tree) → Option Tree → Type 0
GivesExchange t path old new None = (u : Tree) → Replaces t path old new u → ⊥
GivesExchange t path old new (Some u) = Replaces t path old new u
