use Rattle.std.proofs.Common.{ℕ, List, map, refl, subst}
use Rattle.circ_term.specs.Tree.{Tree}
use Rattle.circ_theory.specs.Rewriting.{named}
use Rattle.circ_theory.specs.Signature.{IsWellSorted}
use Rattle.circ_proof.specs.PlainProof.{plain_step}
use Rattle.circ_proof.specs.Rules.{ProofStep, map_step}
use Rattle.circ_rules.specs.Answers.{Applies}
use Rattle.circ_nodes.specs.Named.{tree_at}
use Rattle.circ_steps.specs.States.{state_at}
use Rattle.circ_entering.proofs.Renumbering.{numbered_all}
use Rattle.circ_check.specs.Checking.{goals_in}
use Rattle.circ_check.proofs.Numbered.{rules_there, step_in_table}
use Rattle.circ_check.proofs.Watching.{on_ok, step_noted}
use Rattle.circ_check.proofs.checker.Checker.advance_entered.Goals as goal

pub made_by-requires-clause-there : goal.made_by-requires-clause-there
made_by-requires-clause-there c = c.requires.sound.state.goals

pub apply-requires-clause-rules : goal.apply-requires-clause-rules
apply-requires-clause-rules c =
    let k = c.args.self.now in
    rules_there k.theory.now k c.requires.sound c.requires.begun _ refl c.as_slice.ensures.value c.as_slice-2.ensures.value c.numbers.ensures

pub apply-requires-clause-table_sorted : goal.apply-requires-clause-table_sorted
apply-requires-clause-table_sorted c =
    let k = c.args.self.now in
    rw c.numbers.ensures (numbered_all (IsWellSorted k.theory.now.signature) k.nodes k.lines c.requires.sound.lines c.requires.ready.sorted)

pub apply-requires-clause-in_table : goal.apply-requires-clause-in_table
apply-requires-clause-in_table c =
    let k = c.args.self.now in
    rw c.numbers.ensures (step_in_table k.nodes k.lines c.requires.sound.lines (plain_step c.args.step.now) c.requires.ready.part.1)

pub returns-clause-took : goal.returns-clause-took
returns-clause-took c =
    let k = c.args.self.now in
    let step = plain_step c.args.step.now in
    let old = state_at k.nodes k.state in
    let new = state_at c.apply.new.nodes c.apply.new.state in
    let P : List ℕ → Type 0 =
    λ ns. Applies k.theory.now k.gamma (map_step (named (map (tree_at k.nodes) ns)) step) old new c.in_ok-holds.holds in
    let Q : ProofStep Tree → Type 0 = λ s. Applies k.theory.now k.gamma s old new c.in_ok-holds.holds in
    let applies = subst Q c.requires.named (subst P c.numbers.ensures c.in_ok-holds.ensures.exact) in
    on_ok c.note_step.result
    (step_noted k c.requires.sound c.requires.begun c.requires.going c.apply.new.nodes c.made_by.new.terms c.apply.new.state c.apply.ensures.grows
    c.made_by.ensures.built c.apply.ensures.state c.apply.ensures.sorted c.in_ok-holds.ensures.hyps c.note_step.new.self step
    c.in_ok-holds.holds (goals_in c.in_ok-made.made) c.in_ok-made.ensures.made applies)
    c.note_step.ensures.noted
