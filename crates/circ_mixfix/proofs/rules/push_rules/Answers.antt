use Rattle.circ_mixfix.proofs.FromLeft.{next_rules}
use Rattle.circ_mixfix.proofs.rules.push_rules.Goals as goal

pub loop-number-preserved : goal.loop-number-preserved
loop-number-preserved c =
    let at = c.loop-number in
    next_rules c.args.theory.now.signature c.args.words.now c.args.most c.args.least.now c.args.numbers.now at.number-index _ c.args.out.now.items at.out.items
    c.push_rule.new.out.items c.loop-number-test.true c.in_ok-push_rule.ensures at.invariant
