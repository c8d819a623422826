use Rattle.std.proofs.Common.{◌≡◌, ◌++◌, drop, flat_map}
use Rattle.circ_trace.specs.TurnText.{further_hypothesis}
use Rattle.circ_trace.proofs.lines.put_others.Given as goal

abbrev pub invariant-loop-number : goal.invariant-loop-number
invariant-loop-number l =
    l.out.items ++ flat_map further_hypothesis (drop l.number-index l.numbers) ≡ l.fn.out.items ++ flat_map further_hypothesis l.numbers
