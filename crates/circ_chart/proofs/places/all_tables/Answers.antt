use Rattle.std.proofs.Common.{◌∷◌, [], length, ap, refl, arith}
use Rattle.std.proofs.lemmas.List.{length-append}
use Rattle.std.proofs.lemmas.Option.{slice_get_read}
use Rattle.circ_chart.proofs.Tables.{have_step}
use Rattle.circ_chart.proofs.places.all_tables.Goals as goal

pub loop-rule-preserved : goal.loop-rule-preserved
loop-rule-preserved c =
    let at = c.loop-rule in
    let rs = c.args.rules.now in
    let t = c.in_ok-rule_tables.field-0 in
    let items = c.in_ok-push.ensures.items in
    let there = slice_get_read rs (length rs) at.rule-index c.rule-item.result refl c.loop-rule-test.true c.rule-item.is in
    record {
      count = omega (arith, ap length items, length-append at.all.items (t ∷ []), at.invariant.count);
      tables = have_step c.args.tokens.now rs at.all.items c.push.new.self.items t at.rule-index c.rule-item.result items at.invariant.count there
          (rw (c.deref.ensures.value) at c.in_ok-rule_tables.ensures) at.invariant.tables;
    }
