use Rattle.std.proofs.Common.{Some, ap, ◌∙◌}
use Rattle.std.specs.Option.{option_map}
use Rattle.circ_theory.proofs.Casing.{cases_found}
use Rattle.circ_theory.proofs.theories.Theory.cases.Goals as goal

pub returns-in-Some : goal.returns-in-Some
returns-in-Some c =
    rw (← c.self.view_is) (ap Some c.as_slice.ensures.value ∙ ap (option_map (λ v. v.items)) (rw c.deref.ensures at c.in-Some.ensures.value) ∙ cases_found (λ v. v.items) c.self.inside.parts.value.cases.entries c.args.sort)

pub returns-in-None : goal.returns-in-None
returns-in-None c = rw (← c.self.view_is) (ap (option_map (λ v. v.items)) (rw c.deref.ensures at c.in-None.ensures.value) ∙ cases_found (λ v. v.items) c.self.inside.parts.value.cases.entries c.args.sort)
