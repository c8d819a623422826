-- The parts of a proof, as its lines show them, and the proof that parts make.
use Rattle.std.specs.Prelude.{ℕ, List, [], ◌∷◌, ◌++◌, map}
use Rattle.circ_term.specs.Tree.{Tree}
use Rattle.circ_theory.specs.Goal.{Goal}
use Rattle.circ_special.specs.declared.place.Place.{Place}
use Rattle.circ_special.specs.Special.{place}
use Rattle.circ_proof.specs.Plain.{LinkOf}
use Rattle.circ_proof.specs.Rules.{ProofStep, Simplify, Reduce, Derive, Cases, Done}
use Rattle.circ_proof.specs.Proof.{GoalNames, Block, Proof, goal_at}
pub use Rattle.circ_proof.specs.Parts.{Part, Head, Certificate, Goals, Step, certificate_parts, step_parts, block_parts, parts_of}
use Rattle.circ_grammar.specs.Grammar.{NumberedStep, Simplify_step, Reduce_step, Derive_step, Cases_step}
use Rattle.circ_grammar.specs.Parts.{PartOf, Head_part, Certificate_part, Goals_part, Step_part, Done_part}

-- the place that two numbers name
abbrev pub place_with : ℕ × ℕ → Place
place_with n = place n.0 n.1

abbrev pub step_with : NumberedStep → ProofStep ℕ
step_with (Simplify_step chain) = Simplify chain
step_with (Reduce_step why) = Reduce why
step_with Derive_step = Derive
step_with (Cases_step term) = Cases term

-- a part as lines show it, with the terms of the table
abbrev pub part_with : {T : Type 0} → List Tree → PartOf T → Part
part_with table (Head_part lines places) = Head table (map place_with places)
part_with table (Certificate_part links) = Certificate links
part_with table (Goals_part names) = Goals (map (goal_at table) names) names
part_with table (Step_part step) = Step (step_with step)
part_with table Done_part = Step Done

-- A proof that is put together from its parts, with the block that is not ended.
pub record Gathered : Type 0 where
  pub table : List Tree
  pub places : List Place
  pub certificates : List (List (LinkOf ℕ))
  pub blocks : List Block
  pub goals : List Goal
  pub names : List GoalNames
  pub steps : List (ProofStep ℕ)

-- a whole proof, with no block that is not ended
abbrev pub gathered : Proof → Gathered
gathered p = record { table = p.table; places = p.places; certificates = p.certificates; blocks = p.blocks; goals = []; names = []; steps = [] }

abbrev pub nothing_gathered : Gathered
nothing_gathered = record { table = []; places = []; certificates = []; blocks = []; goals = []; names = []; steps = [] }

-- the block ends
abbrev pub end_block : Gathered → Gathered
end_block g = record g {
  blocks = g.blocks ++ record { goals = g.goals; names = g.names; steps = g.steps ++ Done ∷ [] } ∷ [];
  goals = [];
  names = [];
  steps = [];
}

-- with one part more
abbrev pub gather : Gathered → Part → Gathered
gather g (Head table places) = record g { table = table; places = places }
gather g (Certificate links) = record g { certificates = g.certificates ++ links ∷ [] }
gather g (Goals goals names) = record g { goals = goals; names = names; steps = [] }
gather g (Step Done) = end_block g
gather g (Step s) = record g { steps = g.steps ++ s ∷ [] }

abbrev pub gather_all : Gathered → List Part → Gathered
gather_all g [] = g
gather_all g (x ∷ xs) = gather_all (gather g x) xs
