use Rattle.std.proofs.Common.{◌<◌, ◌∙◌, List, length, sym, subst}
use Rattle.circ_term.specs.Tree.{Tree}
use Rattle.circ_proof.specs.Rules.{AllOfStep, IsSortedState}
use Rattle.circ_proof.specs.PlainProof.{plain_step}
use Rattle.circ_entering.specs.Work.{state_of}
use Rattle.circ_calls.proofs.Steps.{handed_over}
use Rattle.circ_calls.proofs.applying.apply.Goals as goal

pub add_hypotheses-requires : goal.add_hypotheses-requires
add_hypotheses-requires c = (c.args.theory.now, c.in_ok-work.ensures.work)

pub add_goals-requires : goal.add_goals-requires
add_goals-requires c = let th = c.args.theory.now in (th, c.in_ok-add_hypotheses.ensures.work th c.in_ok-work.ensures.work)

pub apply-requires-clause-in_table : goal.apply-requires-clause-in_table
apply-requires-clause-in_table c =
    let P : List Tree → Type 0 = λ ts. AllOfStep (λ n. n < length ts) (plain_step c.args.step.now) in
    subst P (sym (c.add_goals-2.ensures.table ∙ c.add_goals.ensures.table ∙ c.add_hypotheses.ensures.table ∙ c.in_ok-work.ensures.table)) c.requires.in_table

pub apply-requires-clause-sorted : goal.apply-requires-clause-sorted
apply-requires-clause-sorted c =
    let s = c.args.state.now in
    let e = handed_over (state_of c.in_ok-work.work) (state_of c.add_hypotheses.new.self) (state_of c.add_goals.new.self) (state_of c.add_goals-2.new.self) c.as_slice.result.now
    s.hyps.items c.as_slices.result.0.now c.as_slices.result.1.now s.goals.items c.in_ok-work.ensures.state c.in_ok-add_hypotheses.ensures.state
    c.in_ok-add_goals.ensures.state c.in_ok-add_goals-2.ensures.state c.as_slice.ensures.value c.as_slices.ensures.items in
    subst (IsSortedState c.args.theory.now) (sym e) c.requires.state_sorted

pub returns-clause-state_sorted : goal.returns-clause-state_sorted
returns-clause-state_sorted c = subst (IsSortedState c.args.theory.now) (sym c.in_ok-state.ensures.state) c.apply.ensures.sorted
