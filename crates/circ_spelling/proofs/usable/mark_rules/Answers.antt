use Rattle.std.proofs.Common.{◌∙◌, refl, length}
use Rattle.std.proofs.lemmas.Option.{slice_get_read}
use Rattle.circ_spelling.proofs.Marked.{rules_step, neither}
use Rattle.circ_spelling.proofs.usable.mark_rules.Goals as goal

pub loop-rule-preserved : goal.loop-rule-preserved
loop-rule-preserved c =
    let i = c.loop-rule.invariant in
    let m = c.mark_rule-any.ensures in
    record {
      rules = rules_step c.args.rules.now c.loop-rule.rule-index c.rule-item.result c.args.marks.now.items c.loop-rule.marks.items c.mark_rule-any.new.marks.items
          (slice_get_read c.args.rules.now (length c.args.rules.now) c.loop-rule.rule-index c.rule-item.result refl c.loop-rule-test.true c.rule-item.is) i.rules i.stay m.stay m.marked;
      stay = λ s h. m.stay s (i.stay s h);
      same = λ e. let k = neither c.mark_rule-any.result c.loop-rule.any e in m.same k.0 ∙ i.same k.1;
    }
