use Rattle.std.proofs.Common.{◌≡◌, ◌++◌, drop}
use Rattle.circ_moves.proofs.apart.share_from.Given as goal

abbrev pub invariant-loop-i : goal.invariant-loop-i
invariant-loop-i l = l.list.items ++ drop l.i l.terms ≡ l.initial.list.items ++ drop l.from l.terms
