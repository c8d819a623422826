use Rattle.std.proofs.Common.{◌∙◌, ap, sym, subst}
use Rattle.circ_proof.specs.PlainProof.{plain_block}
use Rattle.circ_plain_search.specs.Numbering.{asked_for, block_terms, numbered_block}
use Rattle.circ_numbering.specs.Asking.{IsFaultOf}
use Rattle.circ_numbering.specs.Plain.{plain_term_block}
use Rattle.circ_numbering.proofs.Walks.{walk_fails, walk_on, walk_asked, walk_named, flat_seen, map_seen}
use Rattle.circ_numbering.proofs.blocks.named_blocks.Goals as goal

pub returns-in-Err : goal.returns-in-Err
returns-in-Err c =
    let l = c.loop-one in
    let h = walk_fails (λ x. block_terms (plain_term_block x)) plain_block (λ table x. numbered_block table (plain_term_block x)) c.args.table.now c.args.recorded.now l.one-index l.table l.blocks.items l.invariant c.one-item.result c.loop-one-test.true c.one-item.is c.in-Err.fault c.in-Err.ensures in
    subst (λ ts. IsFaultOf (asked_for c.args.table.now ts) c.in-Err.fault) (sym (flat_seen plain_term_block block_terms c.args.recorded.now)) h

pub loop-one-preserved : goal.loop-one-preserved
loop-one-preserved c =
    let l = c.loop-one in
    walk_on (λ x. block_terms (plain_term_block x)) plain_block (λ table x. numbered_block table (plain_term_block x)) c.args.table.now c.args.recorded.now l.one-index l.table l.blocks.items l.invariant c.one-item.result c.loop-one-test.true c.one-item.is c.named_block.new.table c.push.new.self.items c.in-Ok.block
    c.in-Ok.ensures.0 c.in-Ok.ensures.1 c.in_ok-push-in-Ok.ensures.items

pub returns : goal.returns
returns c =
    let l = c.loop-one in
    let asked = walk_asked (λ x. block_terms (plain_term_block x)) plain_block (λ table x. numbered_block table (plain_term_block x)) c.args.table.now c.args.recorded.now l.one-index l.table l.blocks.items l.invariant c.loop-one-test.false in
    let named = walk_named (λ x. block_terms (plain_term_block x)) plain_block (λ table x. numbered_block table (plain_term_block x)) c.args.table.now c.args.recorded.now l.one-index l.table l.blocks.items l.invariant c.loop-one-test.false in (
      asked ∙ ap (asked_for c.args.table.now) (sym (flat_seen plain_term_block block_terms c.args.recorded.now)),
      λ table a. named table a ∙ sym (map_seen plain_term_block (numbered_block table) c.args.recorded.now),
    )
