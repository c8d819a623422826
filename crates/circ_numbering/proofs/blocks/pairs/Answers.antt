use Rattle.std.proofs.Common.{◌∙◌, ap, sym, subst}
use Rattle.circ_theory.specs.Pairs.{plain_pair}
use Rattle.circ_plain_search.specs.Numbering.{asked_for, side_terms, pair_name}
use Rattle.circ_numbering.specs.Asking.{IsFaultOf}
use Rattle.circ_numbering.proofs.Walks.{walk_fails, walk_on, walk_asked, walk_named, flat_seen, map_seen, as_they_are}
use Rattle.circ_numbering.proofs.blocks.pairs.Goals as goal

pub returns-in-Err : goal.returns-in-Err
returns-in-Err c =
    let l = c.loop-one in
    let h = walk_fails (λ x. side_terms (plain_pair x)) (λ n. n) (λ table x. pair_name table (plain_pair x)) c.args.table.now c.args.recorded.now l.one-index l.table l.pairs.items l.invariant c.one-item.result c.loop-one-test.true c.one-item.is c.in-Err.fault c.in-Err.ensures in
    subst (λ ts. IsFaultOf (asked_for c.args.table.now ts) c.in-Err.fault) (sym (flat_seen plain_pair side_terms c.args.recorded.now)) h

pub loop-one-preserved : goal.loop-one-preserved
loop-one-preserved c =
    let l = c.loop-one in
    walk_on (λ x. side_terms (plain_pair x)) (λ n. n) (λ table x. pair_name table (plain_pair x)) c.args.table.now c.args.recorded.now l.one-index l.table l.pairs.items l.invariant c.one-item.result c.loop-one-test.true c.one-item.is c.pair.new.table c.push.new.self.items c.in-Ok.pair
    c.in-Ok.ensures.0 c.in-Ok.ensures.1 c.in_ok-push-in-Ok.ensures.items

pub returns : goal.returns
returns c =
    let l = c.loop-one in
    let asked = walk_asked (λ x. side_terms (plain_pair x)) (λ n. n) (λ table x. pair_name table (plain_pair x)) c.args.table.now c.args.recorded.now l.one-index l.table l.pairs.items l.invariant c.loop-one-test.false in
    let named = walk_named (λ x. side_terms (plain_pair x)) (λ n. n) (λ table x. pair_name table (plain_pair x)) c.args.table.now c.args.recorded.now l.one-index l.table l.pairs.items l.invariant c.loop-one-test.false in
    (asked ∙ ap (asked_for c.args.table.now) (sym (flat_seen plain_pair side_terms c.args.recorded.now)), λ table a. sym (as_they_are l.pairs.items) ∙ named table a ∙ sym (map_seen plain_pair (pair_name table) c.args.recorded.now))
