use Rattle.circ_nodes.proofs.Numbers.{grows_more}
use Rattle.circ_entering.proofs.Entered.{pattern_entered}
use Rattle.circ_entering.proofs.entering.enter_hypothesis.Goals as goal

pub pattern-requires-clause-conditions : goal.pattern-requires-clause-conditions
pattern-requires-clause-conditions c = c.in_ok-made.ensures.there.conditions

pub pattern-requires-clause-sides : goal.pattern-requires-clause-sides
pattern-requires-clause-sides c = c.in_ok-made.ensures.there.sides

pub returns-clause-grows : goal.returns-clause-grows
returns-clause-grows c =
    grows_more c.args.nodes.now c.enter_goal.new.nodes c.pattern.new.nodes c.in_ok-made.ensures.grows c.pattern.ensures.grows

pub returns-clause-same : goal.returns-clause-same
returns-clause-same c =
    pattern_entered c.enter_goal.new.nodes c.pattern.new.nodes c.pattern.ensures.grows c.in_ok-made.made c.args.goal.now
    c.in_ok-made.ensures.there c.in_ok-made.ensures.same c.pattern.result c.pattern.ensures.conditions c.pattern.ensures.sides
