use Rattle.std.proofs.Common.{◌∙◌}
use Rattle.circ_theory.proofs.Declaring.{name_position}
use Rattle.circ_theory.proofs.theories.Theory.var_named.Goals as goal

pub returns-in-Some : goal.returns-in-Some
returns-in-Some c = rw (← c.self.view_is) ((rw c.deref.ensures at c.in-Some.ensures.index) ∙ name_position (λ k. k.items) c.self.inside.parts.value.vars.entries c.args.name.now)

pub returns-in-None : goal.returns-in-None
returns-in-None c = rw (← c.self.view_is) ((rw c.deref.ensures at c.in-None.ensures.index) ∙ name_position (λ k. k.items) c.self.inside.parts.value.vars.entries c.args.name.now)
