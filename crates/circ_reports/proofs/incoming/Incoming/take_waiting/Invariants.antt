use Rattle.std.proofs.Common.{◌≡◌, ℕ, List, length, None}
use Rattle.circ_theory.specs.Theory.{Theory}
use Rattle.circ_proof.specs.Parts.{Part}
use Rattle.circ_file.specs.Feeding as reader
use Rattle.circ_reports.specs.Incoming.{HasRead}
use Rattle.circ_reports.proofs.incoming.Incoming.take_waiting.Given as goal

abbrev pub invariant-loop-part : goal.invariant-loop-part
invariant-loop-part l = record {
  sound : reader.IsSound l.self.reader;
  fault : reader.fault_of l.self.reader ≡ None;
  lines : reader.whole_lines_in l.self.reader ≡ reader.whole_lines_in l.fn.self.reader;
  theory : l.self.theory.now ≡ l.fn.self.theory.now;
  read : (th : Theory) (bytes : List ℕ) (parts : List Part) → HasRead th bytes parts l.fn.self → (all : List Part) × HasRead th bytes all l.self;
}

abbrev pub decreases-loop-part : goal.decreases-loop-part
decreases-loop-part l = length (reader.waiting_in l.self.reader)
