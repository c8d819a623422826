use Rattle.std.proofs.Common.{◌≡◌, ◌++◌, drop}
use Rattle.circ_join.specs.Uses.{plain_uses}
use Rattle.circ_trace.specs.Used.{numbers_of}
use Rattle.circ_trace.proofs.used.push_numbers.Given as goal

abbrev pub invariant-loop-one : goal.invariant-loop-one
invariant-loop-one l =
    l.numbers.items ++ numbers_of (plain_uses (drop l.one-index l.uses)) ≡ l.fn.numbers.items ++ numbers_of (plain_uses l.uses)
