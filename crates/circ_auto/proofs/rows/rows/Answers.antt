use Rattle.std.proofs.Common.{sym, ◌∙◌}
use Rattle.circ_auto.proofs.RowSteps.{row_taken, row_missing}
use Rattle.circ_auto.proofs.rows.rows.Goals as goal

pub returns-in-Ok-None : goal.returns-in-Ok-None
returns-in-Ok-None c =
    rw (c.shape.ensures, c.from.ensures)
    (sym c.loop-state.invariant ∙ row_missing c.args.letters c.args.states c.loop-state.state c.loop-state.targets.items c.loop-state.left
    c.loop-state-test.true (sym (rw c.in-Ok-None.field-0-is at c.in-Ok-None.ensures)))

pub loop-state-preserved : goal.loop-state-preserved
loop-state-preserved c =
    row_taken c.args.letters c.args.states c.loop-state.state c.loop-state.targets.items c.in-Ok-Some.row.items c.extend_from_slice.new.self.items
    c.loop-state.left c.in-Ok-Some.rest c.loop-state-test.true (sym (rw c.in-Ok-Some.field-0-is at c.in-Ok-Some.ensures))
    (rw c.as_slice.ensures.value at c.in_ok-extend_from_slice-in-Ok-Some.ensures.items)
    ∙ c.loop-state.invariant
