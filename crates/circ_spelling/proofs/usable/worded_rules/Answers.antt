use Rattle.std.proofs.Common.{refl, length}
use Rattle.std.proofs.lemmas.Option.{slice_get_read}
use Rattle.circ_spelling.specs.Usable.{HasTokens}
use Rattle.circ_spelling.proofs.Marked.{no_rules, rule_step}
use Rattle.circ_spelling.proofs.usable.worded_rules.Goals as goal

pub loop-rule-init : goal.loop-rule-init
loop-rule-init c = no_rules (λ r. HasTokens c.args.tokens.now r.symbols.items) c.args.rules.now c.new-some.result.items c.new-some.ensures.items

pub loop-rule-preserved : goal.loop-rule-preserved
loop-rule-preserved c =
    let rs = c.args.rules.now in
    rule_step (λ r. HasTokens c.args.tokens.now r.symbols.items) rs c.loop-rule.some.items c.push_worded.new.some.items c.loop-rule.rule-index c.rule-item.result
    (slice_get_read rs (length rs) c.loop-rule.rule-index c.rule-item.result refl c.loop-rule-test.true c.rule-item.is) c.in_ok-push_worded.ensures c.loop-rule.invariant
