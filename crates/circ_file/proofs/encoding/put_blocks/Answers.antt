use Rattle.std.proofs.Common.{map, refl}
use Rattle.circ_proof.specs.PlainProof.{plain_block}
use Rattle.circ_file.specs.Encoding.{HasSteps}
use Rattle.circ_grammar.specs.Grammar.{lines_of, block_lines}
use Rattle.circ_proof_text.specs.ProofText.{block_numbers}
use Rattle.circ_file.proofs.Written.{all_written, mapped_at}
use Rattle.circ_file.proofs.encoding.put_blocks.Goals as goal

pub put_block-requires : goal.put_block-requires
put_block-requires c = (
  c.requires.0,
  mapped_at (HasSteps c.requires.0) plain_block c.args.blocks.now c.loop-block.block-index c.block-item.result c.requires.1 c.loop-block-test.true
      c.block-item.is,
)

pub returns : goal.returns
returns c =
    let at = c.loop-block in
    all_written (λ xs. lines_of block_lines (map block_numbers (map plain_block xs))) (λ x. block_lines (block_numbers (plain_block x))) c.args.out.now.items
    c.args.blocks.now at.block-index (λ later. refl) at.out.items c.loop-block-test.false at.invariant
