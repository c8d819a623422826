use Rattle.std.proofs.Common.{◌≡◌, ◌++◌, map, drop}
use Rattle.circ_keeping.specs.Moved.{moved_number}
use Rattle.circ_keeping.proofs.keeping.moved_numbers.Given as goal

abbrev pub invariant-loop-number : goal.invariant-loop-number
invariant-loop-number l =
    l.next.items ++ map (moved_number l.count l.moved) (drop l.number-index l.numbers) ≡ map (moved_number l.count l.moved) l.numbers
