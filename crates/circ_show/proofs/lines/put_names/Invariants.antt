use Rattle.std.proofs.Common.{◌≡◌, ◌++◌, flat_map, drop}
use Rattle.circ_show.specs.Lines.{spaced_sort}
use Rattle.circ_show.proofs.lines.put_names.Given as goal

abbrev pub invariant-loop-sort : goal.invariant-loop-sort
invariant-loop-sort l =
    l.out.items ++ flat_map (spaced_sort l.theory.signature) (drop l.sort-index l.sorts)
    ≡ l.fn.out.items ++ flat_map (spaced_sort l.theory.signature) l.sorts
