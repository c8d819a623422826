use Rattle.std.proofs.Common.{◌≡◌, ◌+◌, drop, map}
use Rattle.circ_proof.specs.PlainProof.{plain_block}
use Rattle.circ_proof.specs.Proof.{steps_in}
use Rattle.circ_found.proofs.counts.steps_in.Given as goal

abbrev pub invariant-loop-block : goal.invariant-loop-block
invariant-loop-block l = l.count + steps_in (map plain_block (drop l.block-index l.blocks)) ≡ steps_in (map plain_block l.blocks)
