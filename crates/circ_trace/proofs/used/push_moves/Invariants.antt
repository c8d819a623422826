use Rattle.std.proofs.Common.{◌≡◌, ◌++◌, drop}
use Rattle.circ_moves.specs.Plain.{plain_moves}
use Rattle.circ_trace.specs.Used.{move_hypotheses}
use Rattle.circ_trace.proofs.used.push_moves.Given as goal

abbrev pub invariant-loop-one : goal.invariant-loop-one
invariant-loop-one l =
    l.numbers.items ++ move_hypotheses (plain_moves (drop l.one-index l.moves)) ≡ l.fn.numbers.items ++ move_hypotheses (plain_moves l.moves)
