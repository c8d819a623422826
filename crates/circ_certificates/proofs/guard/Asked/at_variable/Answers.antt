use Rattle.std.proofs.Common.{inl, refl, ap}
use Rattle.std.proofs.lemmas.Option.{same_Some}
use Rattle.circ_term.specs.Tree.{variable_number, sort_of}
use Rattle.circ_certificates.proofs.guard.Asked.at_variable.Goals as goal

pub returns-then-number-self : goal.returns-then-number-self
returns-then-number-self c =
    ((λ t e. absurd (c.if-number-self.true (same_Some c.args.number c.args.self.now.id (ap variable_number e)))), (λ h. refl))

pub returns-then-sort-self : goal.returns-then-sort-self
returns-then-sort-self c = ((λ t e. absurd (c.if-sort-self.true (ap sort_of e))), (λ h. refl))

pub returns-then-is_special : goal.returns-then-is_special
returns-then-is_special c = ((λ t e. inl c.if-is_special.true), (λ h. refl))
