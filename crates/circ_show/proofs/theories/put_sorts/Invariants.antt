use Rattle.std.proofs.Common.{◌≡◌, ◌++◌, flat_map, drop}
use Rattle.circ_show.specs.Lines.{sort_line}
use Rattle.circ_show.proofs.theories.put_sorts.Given as goal

abbrev pub invariant-loop-n : goal.invariant-loop-n
invariant-loop-n l = l.out.items ++ flat_map sort_line (drop l.n l.theory.signature.sorts) ≡ l.fn.out.items ++ flat_map sort_line l.theory.signature.sorts
