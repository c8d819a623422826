use Rattle.std.proofs.Common.{◌≡◌, length, None}
use Rattle.circ_proof_text.specs.Parts.{nothing_gathered, gather_all}
use Rattle.circ_file.specs.View.{queue_of}
use Rattle.circ_file.specs.Feeding.{IsSound}
use Rattle.circ_file.specs.Decoding.{gathered_of}
use Rattle.circ_file.proofs.decoding.gather.Given as goal

abbrev pub invariant-loop-part : goal.invariant-loop-part
invariant-loop-part l = record {
  sound : IsSound l.reader;
  fault : l.reader.fault ≡ None;
  version : l.gathering.proof.version ≡ l.version;
  gathered : gather_all (gathered_of l.gathering) (queue_of l.reader.reader.machine) ≡ gather_all nothing_gathered (queue_of l.fn.reader.reader.machine);
}

abbrev pub decreases-loop-part : goal.decreases-loop-part
decreases-loop-part l = length (queue_of l.reader.reader.machine)
