use Rattle.std.proofs.Common.{◌≡◌, ◌≤◌, ◌+◌, drop, map}
use Rattle.circ_proof.specs.PlainProof.{plain_block}
use Rattle.circ_proof.specs.Proof.{steps_in}
use Rattle.circ_found.specs.Answering.{derives_in}
use Rattle.circ_found.proofs.counts.derives_in.Given as goal

abbrev pub invariant-loop-block : goal.invariant-loop-block
invariant-loop-block l = record {
  same : l.count + derives_in (map plain_block (drop l.block-index l.blocks)) ≡ derives_in (map plain_block l.blocks);
  few : l.count + steps_in (map plain_block (drop l.block-index l.blocks)) ≤ 100000;
}
