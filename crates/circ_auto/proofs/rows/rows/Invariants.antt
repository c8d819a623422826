use Rattle.std.proofs.Common.{◌≡◌, ◌-◌}
use Rattle.circ_auto.specs.Parts.{rows_part}
use Rattle.circ_auto.proofs.RowSteps.{with_targets}
use Rattle.circ_auto.proofs.rows.rows.Given as goal

abbrev pub invariant-loop-state : goal.invariant-loop-state
invariant-loop-state l =
    with_targets l.targets.items (rows_part l.letters l.states (l.states - l.state) l.state l.left) ≡ rows_part l.letters l.states l.states 0 l.fn.words
