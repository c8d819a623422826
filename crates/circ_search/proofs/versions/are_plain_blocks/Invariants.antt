use Rattle.std.proofs.Common.{◌≡◌, drop}
use Rattle.std.specs.List.{list_all}
use Rattle.circ_numbering.specs.Plain.{plain_term_blocks}
use Rattle.circ_conditional_search.specs.Versions.{is_plain_block}
use Rattle.circ_search.proofs.versions.are_plain_blocks.Given as goal

abbrev pub invariant-loop-block : goal.invariant-loop-block
invariant-loop-block l = list_all is_plain_block (plain_term_blocks (drop l.block-index l.blocks)) ≡ list_all is_plain_block (plain_term_blocks l.blocks)
