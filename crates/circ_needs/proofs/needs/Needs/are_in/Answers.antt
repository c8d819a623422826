use Rattle.std.proofs.Common.{List, IsTrue, ◌↔◌, ap, subst, ◌∙◌}
use Rattle.circ_special.specs.declared.place.Place.{Place}
use Rattle.circ_needs.specs.Needs.{HasAll}
use Rattle.circ_needs.specs.Places.{places_of}
use Rattle.circ_needs.proofs.needs.Needs.are_in.Goals as goal

pub returns : goal.returns
returns c =
    let P : List Place → Type 0 = λ ps. IsTrue c.are_in.result ↔ HasAll c.args.gamma.now ps in
    subst P (ap places_of c.as_slice.ensures.keys ∙ c.self.view_is) c.are_in.ensures
