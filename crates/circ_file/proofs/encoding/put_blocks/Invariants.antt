use Rattle.std.proofs.Common.{map}
use Rattle.circ_proof.specs.PlainProof.{plain_block}
use Rattle.circ_grammar.specs.Grammar.{lines_of, block_lines}
use Rattle.circ_proof_text.specs.ProofText.{block_numbers}
use Rattle.circ_file.proofs.Written.{IsLeft}
use Rattle.circ_file.proofs.encoding.put_blocks.Given as goal

abbrev pub invariant-loop-block : goal.invariant-loop-block
invariant-loop-block l = IsLeft (λ xs. lines_of block_lines (map block_numbers (map plain_block xs))) l.fn.out.items l.out.items l.blocks l.block-index
