use Rattle.circ_check.proofs.Numbered.{knows_all}
use Rattle.circ_check.proofs.checker.Checker.enter.Goals as goal

pub returns-clause-knows : goal.returns-clause-knows
returns-clause-knows c =
    knows_all c.args.self.now.theory.now c.equations.new.nodes c.derivatives.new.nodes c.of_table.new.nodes c.derivatives.ensures.grows
    c.of_table.ensures.grows c.in_ok-self.field-0.items c.in_ok-self-2.field-0.items c.in_ok-self.ensures.equations c.in_ok-self.ensures.patterns
    c.in_ok-self-2.ensures.derivatives
