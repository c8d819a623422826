use Rattle.std.proofs.Common.{◌∙◌, ℕ, List, map, ap}
use Rattle.std.specs.Prelude.{flat_map}
use Rattle.circ_proof.specs.PlainProof.{plain_names, plain_steps}
use Rattle.circ_proof.specs.Proof.{GoalNames, Block}
use Rattle.circ_proof.specs.Rules.{ProofStep}
use Rattle.circ_theory.specs.Goal.{Goal}
use Rattle.circ_plain_search.specs.Numbering.{goal_terms, goal_name, step_terms}
use Rattle.circ_numbering.proofs.Requests.{first_fails, second_fails, both_asked, later_too}
use Rattle.circ_numbering.proofs.blocks.named_block.Goals as goal

pub returns-in-Err : goal.returns-in-Err
returns-in-Err c =
    let r = c.args.recorded.now in
    first_fails c.args.table.now (flat_map goal_terms r.goals.items) (flat_map step_terms (plain_steps r.steps.items)) c.in-Err.fault
    (rw c.as_slice-2.ensures.value at c.in-Err.ensures)

pub returns-in-Err-steps : goal.returns-in-Err-steps
returns-in-Err-steps c =
    let r = c.args.recorded.now in
    second_fails c.args.table.now c.names.new.table (flat_map goal_terms r.goals.items) (flat_map step_terms (plain_steps r.steps.items)) c.in-Err-steps.fault
    (rw c.as_slice-2.ensures.value at c.in-Ok.ensures.0) (rw c.as_slice-3.ensures.value at c.in-Err-steps.ensures)

pub returns-in-Ok-steps : goal.returns-in-Ok-steps
returns-in-Ok-steps c =
    let r = c.args.recorded.now in
    let names = rw c.as_slice-2.ensures.value at c.in-Ok.ensures in
    let steps = rw c.as_slice-3.ensures.value at c.in-Ok-steps.ensures in
    let goals = rw c.as_slice.ensures.value at c.in_ok-goals.ensures in
    let A : List Goal → Block = λ gs. record { goals = gs; names = map plain_names c.in-Ok.names.items; steps = plain_steps c.in-Ok-steps.steps.items } in
    let B : List GoalNames → List (ProofStep ℕ) → Block = λ n s. record { goals = r.goals.items; names = n; steps = s } in (
      both_asked c.args.table.now c.names.new.table c.steps.new.table (flat_map goal_terms r.goals.items) (flat_map step_terms (plain_steps r.steps.items))
          names.0 steps.0,
      λ table a.
          ap A goals
          ∙ ap (λ n. B n (plain_steps c.in-Ok-steps.steps.items)) (names.1 table (later_too c.names.new.table c.steps.new.table (flat_map step_terms (plain_steps r.steps.items)) table steps.0 a))
          ∙ ap (B (map (goal_name table) r.goals.items)) (steps.1 table a),
    )
