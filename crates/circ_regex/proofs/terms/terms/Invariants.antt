use Rattle.std.proofs.Common.{◌≡◌, ◌≤◌, Some, length, drop, reverse}
use Rattle.circ_regex.specs.Making.{coded_terms}
use Rattle.circ_regex.proofs.terms.terms.Given as goal

abbrev pub invariant-loop-at : goal.invariant-loop-at
invariant-loop-at l = record {
  inside : l.at ≤ length l.text;
  gives : coded_terms l.rows (drop l.at l.text) ≡ Some (reverse l.stack.items);
}

abbrev pub decreases-loop-at : goal.decreases-loop-at
decreases-loop-at l = l.at
