use Rattle.std.proofs.Common.{◌≡◌, ◌++◌, map, drop, slice_index_or}
use Rattle.circ_shared.proofs.binding.named_by.Given as goal

abbrev pub invariant-loop-number : goal.invariant-loop-number
invariant-loop-number l =
    l.named.items ++ map (λ n. slice_index_or l.table n 0) (drop l.number-index l.numbers) ≡ map (λ n. slice_index_or l.table n 0) l.numbers
