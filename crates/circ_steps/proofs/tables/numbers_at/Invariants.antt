use Rattle.std.proofs.Common.{◌≡◌, ◌++◌, map, drop, slice_index_or}
use Rattle.circ_steps.proofs.tables.numbers_at.Given as goal

abbrev pub invariant-loop-place : goal.invariant-loop-place
invariant-loop-place l =
    l.found.items ++ map (λ n. slice_index_or l.numbers n 0) (drop l.place-index l.places) ≡ map (λ n. slice_index_or l.numbers n 0) l.places
