use Rattle.std.proofs.Common.{◌≡◌, ◌<◌, ℕ}
use Rattle.circ_show.specs.SortMarks.{CarriesMarkAt}
use Rattle.circ_show.proofs.observed.observe_more.Given as goal

abbrev pub invariant-loop-number : goal.invariant-loop-number
invariant-loop-number l = record {
  same : l.marks.items ≡ l.fn.marks.items;
  passed : (n : ℕ) → n < l.number → CarriesMarkAt l.theory l.fn.marks.items n;
}
