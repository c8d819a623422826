use Rattle.std.proofs.Common.{◌≡◌, length}
use Rattle.circ_plain_search.specs.Search.{constants_of}
use Rattle.circ_trace.specs.Descents.{case_row}
use Rattle.circ_trace.proofs.descents.put_cases.Given as goal

abbrev pub invariant-loop-number : goal.invariant-loop-number
invariant-loop-number l = case_row l.goal l.number l.waiting.items ≡ case_row l.goal (length (constants_of l.theory l.sort)) l.fn.waiting.items

abbrev pub decreases-loop-number : goal.decreases-loop-number
decreases-loop-number l = l.number
