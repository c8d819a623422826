use Rattle.std.proofs.Common.{nat_eq, sym, ◌∙◌}
use Rattle.std.specs.Cmp.Lexicographic.{pointwise}
use Rattle.circ_theory.proofs.Lists.{position-map}
use Rattle.circ_theory.proofs.theories.Theory.sort_named.Goals as goal

pub returns-in-Some : goal.returns-in-Some
returns-in-Some c = rw (← c.self.view_is) ((rw c.deref.ensures at c.in-Some.ensures.index) ∙ sym (position-map (pointwise nat_eq c.args.name.now) (λ k. k.items) c.self.inside.parts.value.sorts.keys))

pub returns-in-None : goal.returns-in-None
returns-in-None c = rw (← c.self.view_is) ((rw c.deref.ensures at c.in-None.ensures.index) ∙ sym (position-map (pointwise nat_eq c.args.name.now) (λ k. k.items) c.self.inside.parts.value.sorts.keys))
