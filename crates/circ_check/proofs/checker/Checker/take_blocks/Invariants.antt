use Rattle.std.proofs.Common.{map, drop}
use Rattle.circ_theory.specs.Theory.{Theory}
use Rattle.circ_proof.specs.Parts.{block_parts}
use Rattle.circ_proof.specs.PlainProof.{plain_proof, plain_block}
use Rattle.circ_check.specs.Watching.{HasLeft}
use Rattle.circ_check.proofs.checker.Checker.take_blocks.Given as goal

abbrev pub invariant-loop-block : goal.invariant-loop-block
invariant-loop-block l = (th : Theory) → HasLeft th (plain_proof l.proof) (block_parts (map plain_block l.proof.blocks.items)) l.initial.self
    → HasLeft th (plain_proof l.proof) (block_parts (map plain_block (drop l.block-index l.proof.blocks.items))) l.self
