use Rattle.std.proofs.Common.{◌-◌, length, drop}
use Rattle.circ_lexer.specs.Scanning.{Scans, BeginsToken}
use Rattle.circ_lexer.proofs.scan.spans_of.Given as goal

abbrev pub invariant-loop-at : goal.invariant-loop-at
invariant-loop-at l = record {
  scans : Scans l.bytes 0 l.spans.items l.at;
  token : BeginsToken (drop l.at l.bytes);
}

abbrev pub decreases-loop-at : goal.decreases-loop-at
decreases-loop-at l = length l.bytes - l.at
