use Rattle.std.proofs.Common.{◌≡◌, ◌++◌, drop, map, codes}
use Rattle.circ_theory.specs.Pairs.{plain_pair}
use Rattle.circ_show.specs.GoalsText.{pair_lines}
use Rattle.circ_found.proofs.texts.put_cases.Given as goal

abbrev pub invariant-loop-case : goal.invariant-loop-case
invariant-loop-case l =
    l.out.items ++ pair_lines (codes "case: ") l.theory.signature (map plain_pair (drop l.case-index l.cases))
    ≡ l.fn.out.items ++ pair_lines (codes "case: ") l.theory.signature (map plain_pair l.cases)
