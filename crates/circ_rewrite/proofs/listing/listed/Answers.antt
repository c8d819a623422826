use Rattle.std.proofs.Common.{◌<◌, length, sym, ◌∙◌, arith}
use Rattle.circ_rewrite.specs.TheoryRules.{theory_rules}
use Rattle.circ_rewrite.proofs.RuleLists.{rule_added, rule_passed}
use Rattle.circ_rewrite.proofs.listing.listed.Goals.{in-Some+in_ok-push-in-Some, in-None}
use Rattle.circ_rewrite.proofs.listing.listed.Goals as goal

pub loop-number-preserved : goal.loop-number-preserved
loop-number-preserved c =
    let th = c.args.theory.now in
    let es = th.equations in
    let n = c.loop-number.number in
    let below : n < length es = omega (arith, c.loop-number-test.true, c.equation_count-number-end.ensures.count) in
    elim c.match-branch-2.branch [
      | in-Some+in_ok-push-in-Some w ↦
          let s = rule_added es n c.loop-number.rules.items (theory_rules th) below c.loop-number.invariant w.in-Some.rule (sym w.in-Some.is ∙ c.in_ok-rule.ensures) in
          rw (w.rules-is, w.in_ok-push-in-Some.ensures.items) s
      | in-None w ↦
          let s = rule_passed es n c.loop-number.rules.items (theory_rules th) below c.loop-number.invariant (sym w.in-None.is ∙ c.in_ok-rule.ensures) in
          rw w.rules-is s
    ]
