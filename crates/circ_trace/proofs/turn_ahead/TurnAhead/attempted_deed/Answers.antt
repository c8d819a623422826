use Rattle.std.proofs.Common.{ap, sym}
use Rattle.circ_turn.proofs.Turning.{reducing_is}
use Rattle.circ_trace.specs.Deed.{attempt_deed_by}
use Rattle.circ_trace.proofs.Deeds.{same_deed, attempt_hindered}
use Rattle.circ_trace.proofs.turn_ahead.TurnAhead.attempted_deed.Goals as goal

pub attempt-requires-clause-reducer : goal.attempt-requires-clause-reducer
attempt-requires-clause-reducer c =
    reducing_is c.args.self.now.search.now.theory.now c.args.self.now.state.now.hyps.earlier c.args.rules.now.goals.conds c.args.goal.now.conds c.args.rules.now.goals.reducer c.requires.rules.goals c.requires.conds

pub returns-in-Err-clause-exact : goal.returns-in-Err-clause-exact
returns-in-Err-clause-exact c =
    let h = rw c.in-Err.is at c.attempt.ensures.exact in
    attempt_hindered c.in-Err.fault c.attempt.new.budget _ h c.ends_unless_memory.result c.ends_unless_memory.ensures.ends c.ends_unless_memory.ensures.stopped

pub returns-in-Ok-None-clause-exact : goal.returns-in-Ok-None-clause-exact
returns-in-Ok-None-clause-exact c =
    let h = rw c.in-Ok-None.field-0-is at c.in-Ok-None.ensures.exact in
    sym (ap attempt_deed_by h)

pub returns-in-Ok-Some-clause-exact : goal.returns-in-Ok-Some-clause-exact
returns-in-Ok-Some-clause-exact c =
    let h = rw c.in-Ok-Some.field-0-is at c.in-Ok-Some.ensures.exact in
    same_deed _ _ (ap attempt_deed_by h) c.closed_deed.result c.closed_deed.ensures
