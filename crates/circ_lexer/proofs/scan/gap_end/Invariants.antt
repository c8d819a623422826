use Rattle.std.proofs.Common.{◌≡◌, ◌-◌, false, [], length, drop}
use Rattle.circ_lexer.specs.Bytes.{is_blank}
use Rattle.circ_lexer.specs.Scanning.{Scans, begins}
use Rattle.circ_lexer.proofs.scan.gap_end.Given as goal

abbrev pub invariant-loop-at : goal.invariant-loop-at
invariant-loop-at l = record {
  gap : Scans l.bytes l.from [] l.at;
  no_blank : begins is_blank (drop l.at l.bytes) ≡ false;
}

abbrev pub decreases-loop-at : goal.decreases-loop-at
decreases-loop-at l = length l.bytes - l.at
