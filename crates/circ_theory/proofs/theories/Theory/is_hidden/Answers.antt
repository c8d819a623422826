use Rattle.std.proofs.Common.{◌∙◌}
use Rattle.circ_theory.proofs.Casing.{hidden_tells}
use Rattle.circ_theory.proofs.theories.Theory.is_hidden.Goals as goal

pub returns-clause-exact : goal.returns-clause-exact
returns-clause-exact c = rw (← c.self.view_is) ((rw c.deref.ensures at c.contains.ensures) ∙ c.self.invariant.hidden c.args.sort)

pub returns-clause-hidden : goal.returns-clause-hidden
returns-clause-hidden c = rw (returns-clause-exact c) (hidden_tells c.args.self.now c.args.sort)
