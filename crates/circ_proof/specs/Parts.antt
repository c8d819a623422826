-- The parts of a proof, in the order of its text (`Parts`).
use Rattle.std.specs.Prelude.{ℕ, List, [], ◌∷◌, ◌++◌, map}
use Rattle.circ_term.specs.Tree.{Tree}
use Rattle.circ_theory.specs.Goal.{Goal}
use Rattle.circ_special.specs.declared.place.Place.{Place}
use Rattle.circ_proof.specs.Plain.{LinkOf}
use Rattle.circ_proof.specs.Rules.{ProofStep}
use Rattle.circ_proof.specs.Proof.{GoalNames, Block, Proof}

-- the table and the special set, a certificate, the goals of a block, or one of its steps, Done among them
pub data Part : Type 0 where
  Head : (table : List Tree) (places : List Place) → Part
  Certificate : (links : List (LinkOf ℕ)) → Part
  Goals : (goals : List Goal) (names : List GoalNames) → Part
  Step : (step : ProofStep ℕ) → Part

abbrev pub certificate_parts : List (List (LinkOf ℕ)) → List Part
certificate_parts lss = map Certificate lss

abbrev pub step_parts : List (ProofStep ℕ) → List Part
step_parts ss = map Step ss

abbrev pub block_parts : List Block → List Part
block_parts [] = []
block_parts (b ∷ bs) = Goals b.goals b.names ∷ step_parts b.steps ++ block_parts bs

-- the head, the certificates, and for each block its goals and its steps
abbrev pub parts_of : Proof → List Part
parts_of p = Head p.table p.places ∷ certificate_parts p.certificates ++ block_parts p.blocks
