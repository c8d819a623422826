use Rattle.std.proofs.Common.{◌∙◌, ap, sym, subst}
use Rattle.circ_plain_search.specs.Numbering.{asked_for}
use Rattle.circ_numbering.specs.Asking.{IsFaultOf}
use Rattle.circ_proof.specs.Table.{number_in}
use Rattle.circ_proof.specs.PlainProof.{plain_step}
use Rattle.circ_proof.specs.Rules.{map_step}
use Rattle.circ_plain_search.specs.Numbering.{step_terms}
use Rattle.circ_numbering.proofs.Walks.{walk_fails, walk_on, walk_asked, walk_named, flat_seen, map_seen}
use Rattle.circ_numbering.proofs.whys.steps.Goals as goal

pub returns-in-Err : goal.returns-in-Err
returns-in-Err c =
    let l = c.loop-one in
    let h = walk_fails (λ x. step_terms (plain_step x)) plain_step (λ table x. map_step (number_in table) (plain_step x)) c.args.table.now c.args.recorded.now l.one-index l.table l.steps.items l.invariant c.one-item.result c.loop-one-test.true c.one-item.is c.in-Err.fault c.in-Err.ensures in
    subst (λ ts. IsFaultOf (asked_for c.args.table.now ts) c.in-Err.fault) (sym (flat_seen plain_step step_terms c.args.recorded.now)) h

pub loop-one-preserved : goal.loop-one-preserved
loop-one-preserved c =
    let l = c.loop-one in
    walk_on (λ x. step_terms (plain_step x)) plain_step (λ table x. map_step (number_in table) (plain_step x)) c.args.table.now c.args.recorded.now l.one-index l.table l.steps.items l.invariant c.one-item.result c.loop-one-test.true c.one-item.is c.step.new.table c.push.new.self.items c.in-Ok.step
    c.in-Ok.ensures.0 c.in-Ok.ensures.1 c.in_ok-push-in-Ok.ensures.items

pub returns : goal.returns
returns c =
    let l = c.loop-one in
    let asked = walk_asked (λ x. step_terms (plain_step x)) plain_step (λ table x. map_step (number_in table) (plain_step x)) c.args.table.now c.args.recorded.now l.one-index l.table l.steps.items l.invariant c.loop-one-test.false in
    let named = walk_named (λ x. step_terms (plain_step x)) plain_step (λ table x. map_step (number_in table) (plain_step x)) c.args.table.now c.args.recorded.now l.one-index l.table l.steps.items l.invariant c.loop-one-test.false in
    (asked ∙ ap (asked_for c.args.table.now) (sym (flat_seen plain_step step_terms c.args.recorded.now)), λ table a. named table a ∙ sym (map_seen plain_step (map_step (number_in table)) c.args.recorded.now))
