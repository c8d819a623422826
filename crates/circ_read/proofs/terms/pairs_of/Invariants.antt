use Rattle.std.proofs.Common.{◌≡◌, ◌≤◌, ◌-◌, ◌++◌, drop, length}
use Rattle.circ_mixfix.specs.Found.{pairs_of}
use Rattle.circ_read.proofs.terms.pairs_of.Given as goal

abbrev pub invariant-loop-at : goal.invariant-loop-at
invariant-loop-at l = record {
  within : l.at ≤ length l.terms;
  pairs : l.pairs ++ pairs_of (drop l.at l.terms) ≡ pairs_of l.terms;
}

abbrev pub decreases-loop-at : goal.decreases-loop-at
decreases-loop-at l = length l.terms - l.at
