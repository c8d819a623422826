use Rattle.std.proofs.Common.{◌≡◌, take}
use Rattle.circ_block.proofs.reducing.are_same.Given as goal

abbrev pub invariant-loop-n : goal.invariant-loop-n
invariant-loop-n l = take l.n l.pairs ≡ take l.n l.others
