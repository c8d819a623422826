use Rattle.circ_mixfix.proofs.RuleLists.{rules_listed}
use Rattle.circ_mixfix.proofs.rules.rules.Goals as goal

pub returns : goal.returns
returns c =
    rules_listed c.args.theory.now.signature c.args.words.now c.args.most c.args.candidates.now.least.items c.args.candidates.now.ops.items c.new-out.result.items c.push_rules.new.out.items c.new-out.ensures.items
    (rw (c.deref.ensures.value, c.deref-2.ensures.value) at c.in_ok-push_rules.ensures)
