use Rattle.std.proofs.Common.{drop}
use Rattle.circ_proof.specs.PlainProof.{plain_block}
use Rattle.circ_plain_search.specs.Numbering.{block_terms, numbered_block}
use Rattle.circ_numbering.specs.Plain.{plain_term_block}
use Rattle.circ_numbering.proofs.Walks.{IsOnItsWay}
use Rattle.circ_numbering.proofs.blocks.named_blocks.Given as goal

abbrev pub invariant-loop-one : goal.invariant-loop-one
invariant-loop-one l =
    IsOnItsWay (λ x. block_terms (plain_term_block x)) plain_block (λ table x. numbered_block table (plain_term_block x)) l.fn.table l.recorded
    (drop l.one-index l.recorded) l.table l.blocks.items
