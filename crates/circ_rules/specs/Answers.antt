-- What the rules answer.
use Rattle.std.specs.Prelude.{◌≡◌, List, Bool, true, false, Option, Some, None}
use Rattle.circ_term.specs.Tree.{Tree}
use Rattle.circ_theory.specs.Theory.{Theory}
use Rattle.circ_special.specs.declared.place.Place.{Place}
use Rattle.circ_proof.specs.Rules.{State, ProofStep, StepOf}

-- the one that has the property, or that there is none
abbrev pub Gives : {X : Type 0} → (X → Type 0) → Option X → Type 0
Gives {X = X} P None = (x : X) → P x → ⊥
Gives P (Some x) = P x

-- the step leads from a to b; or it is no instance of its rule, and nothing changed
abbrev pub Applies : Theory → List Place → ProofStep Tree → (a b : State) → Bool → Type 0
Applies th G step a b true = StepOf th G step a b
Applies th G step a b false = ((c : State) → StepOf th G step a c → ⊥) × (b ≡ a)
