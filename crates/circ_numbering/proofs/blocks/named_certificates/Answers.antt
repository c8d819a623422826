use Rattle.std.proofs.Common.{◌∙◌, ap, sym, subst}
use Rattle.circ_plain_search.specs.Numbering.{asked_for}
use Rattle.circ_numbering.specs.Asking.{IsFaultOf}
use Rattle.circ_proof.specs.Plain.{plain_links}
use Rattle.circ_plain_search.specs.Numbering.{links_terms, numbered_links}
use Rattle.circ_numbering.proofs.Walks.{walk_fails, walk_on, walk_asked, walk_named, flat_seen, map_seen}
use Rattle.circ_numbering.proofs.blocks.named_certificates.Goals as goal

pub returns-in-Err : goal.returns-in-Err
returns-in-Err c =
    let l = c.loop-one in
    let h = walk_fails (λ x. links_terms (plain_links x.items)) (λ y. plain_links y.items) (λ table x. numbered_links table (plain_links x.items)) c.args.table.now c.args.recorded.now l.one-index l.table l.certificates.items l.invariant c.one-item.result c.loop-one-test.true c.one-item.is c.in-Err.fault (rw c.as_slice.ensures.value at c.in-Err.ensures) in
    subst (λ ts. IsFaultOf (asked_for c.args.table.now ts) c.in-Err.fault) (sym (flat_seen (λ x. plain_links x.items) links_terms c.args.recorded.now)) h

pub loop-one-preserved : goal.loop-one-preserved
loop-one-preserved c =
    let l = c.loop-one in
    walk_on (λ x. links_terms (plain_links x.items)) (λ y. plain_links y.items) (λ table x. numbered_links table (plain_links x.items)) c.args.table.now c.args.recorded.now l.one-index l.table l.certificates.items l.invariant c.one-item.result c.loop-one-test.true c.one-item.is c.links.new.table c.push.new.self.items c.in-Ok.links
    (rw c.as_slice.ensures.value at c.in-Ok.ensures.0) (rw c.as_slice.ensures.value at c.in-Ok.ensures.1) c.in_ok-push-in-Ok.ensures.items

pub returns : goal.returns
returns c =
    let l = c.loop-one in
    let asked = walk_asked (λ x. links_terms (plain_links x.items)) (λ y. plain_links y.items) (λ table x. numbered_links table (plain_links x.items)) c.args.table.now c.args.recorded.now l.one-index l.table l.certificates.items l.invariant c.loop-one-test.false in
    let named = walk_named (λ x. links_terms (plain_links x.items)) (λ y. plain_links y.items) (λ table x. numbered_links table (plain_links x.items)) c.args.table.now c.args.recorded.now l.one-index l.table l.certificates.items l.invariant c.loop-one-test.false in
    (asked ∙ ap (asked_for c.args.table.now) (sym (flat_seen (λ x. plain_links x.items) links_terms c.args.recorded.now)), λ table a. named table a ∙ sym (map_seen (λ x. plain_links x.items) (numbered_links table) c.args.recorded.now))
