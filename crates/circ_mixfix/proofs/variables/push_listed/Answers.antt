use Rattle.circ_mixfix.proofs.FromLeft.{next_named}
use Rattle.circ_mixfix.proofs.variables.push_listed.Goals as goal

pub loop-var-preserved : goal.loop-var-preserved
loop-var-preserved c =
    let at = c.loop-var in
    next_named c.args.vars.now at.var-index c.var-item.result c.args.word c.args.name.now _ at.out.items c.push_one.new.out.items c.loop-var-test.true c.var-item.is
    c.in_ok-push_one.ensures at.invariant
