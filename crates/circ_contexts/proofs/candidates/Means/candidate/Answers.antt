use Rattle.std.proofs.Common.{refl, subst}
use Rattle.circ_special.specs.declared.place.Place.{Place}
use Rattle.circ_contexts.specs.Candidates.{AreNeeds}
use Rattle.circ_contexts.proofs.candidates.Means.candidate.Goals as goal

pub returns-in-Some-clause-exact : goal.returns-in-Some-clause-exact
returns-in-Some-clause-exact c =
    let th = c.args.self.now.theory.now in
    let P : Place → Type 0 = λ g. AreNeeds th c.args.self.now.budget g c.in-Some.needs in
    (refl, record { place = c.requires.place; needs = subst P c.in_ok-start.ensures.place (rw c.in-Some.is at c.in_ok-needs.ensures.exact) })
