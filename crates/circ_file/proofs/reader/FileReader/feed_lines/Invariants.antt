use Rattle.std.proofs.Common.{◌≡◌, ◌+◌, ◌≤◌, length}
use Rattle.circ_file.specs.Lines.{IsReader}
use Rattle.circ_file.proofs.Cutting.{IsRead}
use Rattle.circ_file.proofs.reader.FileReader.feed_lines.Given as goal

abbrev pub invariant-loop-line : goal.invariant-loop-line
invariant-loop-line l = record {
  reader : IsReader l.self.reader;
  room : l.self.lines + length l.rest ≤ l.fn.self.lines + length l.piece;
  fault : l.self.fault ≡ l.fn.self.fault;
  read : IsRead l.fn.self l.piece l.rest l.self;
}

abbrev pub decreases-loop-line : goal.decreases-loop-line
decreases-loop-line l = length l.rest
