use Rattle.std.proofs.Common.{refl, length}
use Rattle.std.proofs.lemmas.Option.{slice_get_read}
use Rattle.circ_spelling.proofs.SortLists.{rule_sorts_step}
use Rattle.circ_spelling.proofs.sorts.rule_sorts.Goals as goal

pub loop-rule-preserved : goal.loop-rule-preserved
loop-rule-preserved c =
    let rs = c.args.rules.now in
    record {
      seen = c.in_ok-push_sort.ensures.seen;
      rules = rule_sorts_step rs c.loop-rule.rule-index c.rule-item.result c.loop-rule.sorts.items c.push_sort.new.sorts.items
          (slice_get_read rs (length rs) c.loop-rule.rule-index c.rule-item.result refl c.loop-rule-test.true c.rule-item.is) c.in_ok-push_sort.ensures.stay c.in_ok-push_sort.ensures.here c.loop-rule.invariant.rules;
    }
