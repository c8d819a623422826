use Rattle.std.proofs.Common.{◌≡◌, ◌++◌, flat_map, drop}
use Rattle.circ_reports.specs.Reduce.{result_line}
use Rattle.circ_reports.proofs.normalising.put_results.Given as goal

abbrev pub invariant-loop-term : goal.invariant-loop-term
invariant-loop-term l =
    l.out.items ++ flat_map (result_line l.theory.signature) (drop l.term-index l.results)
    ≡ l.fn.out.items ++ flat_map (result_line l.theory.signature) l.results
