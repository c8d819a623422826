-- What contracts see of states, steps, blocks and proofs.
use Rattle.std.specs.Prelude.{List, map, Vec}
use Rattle.circ_proof.specs.Plain.{LinkOf, plain_links, plain_chain, plain_why}
use Rattle.circ_proof.specs.declared.links.Link.{Link}
use Rattle.circ_proof.specs.Rules.{State, state, ProofStep, Simplify, Reduce, Derive, Cases, Done}
use Rattle.circ_proof.specs.Proof.{GoalNames, Block, Proof}
use Rattle.circ_proof.specs.declared.state.State.{State as TheState}
use Rattle.circ_proof.specs.declared.proof.Step.{Step}
use Rattle.circ_proof.specs.declared.proof.Step.TheVariants as step
use Rattle.circ_proof.specs.declared.proof.GoalNames.{GoalNames as TheNames}
use Rattle.circ_proof.specs.declared.proof.Block.{Block as TheBlock}
use Rattle.circ_proof.specs.declared.proof.Proof.{Proof as TheProof}

abbrev pub plain_state : TheState → State
plain_state s = state s.hyps.items s.goals.items

abbrev pub plain_step : {T : Type 0} → Step T → ProofStep T
plain_step (step.Simplify chain) = Simplify (plain_chain chain)
plain_step (step.Reduce why) = Reduce (plain_why why)
plain_step step.Derive = Derive
plain_step (step.Cases term) = Cases term
plain_step step.Done = Done

abbrev pub plain_steps : {T : Type 0} → List (Step T) → List (ProofStep T)
plain_steps ss = map plain_step ss

abbrev pub plain_names : TheNames → GoalNames
plain_names n = record { conds = n.conds.items; left = n.left; right = n.right }

abbrev pub plain_block : TheBlock → Block
plain_block b = record { goals = b.goals.items; names = map plain_names b.names.items; steps = plain_steps b.steps.items }

abbrev pub plain_certificates : {T A : Type 0} → List (Vec (Link T) A) → List (List (LinkOf T))
plain_certificates cs = map (λ ls. plain_links ls.items) cs

abbrev pub plain_proof : TheProof → Proof
plain_proof p = record {
  version = p.version;
  table = p.table.items;
  places = p.gamma;
  certificates = plain_certificates p.certificates.items;
  blocks = map plain_block p.blocks.items;
}
