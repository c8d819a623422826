use Rattle.std.proofs.Common.{rules, IsTrue, ◌↔◌, List, sym, subst, ◌∙◌}
use Rattle.std.specs.List.{Contains}
use Rattle.std.proofs.lemmas.Fn.{always_returns_same}
use Rattle.circ_special.specs.declared.place.Place.{Place}
use Rattle.circ_special.specs.Special.{place}
use Rattle.circ_special.specs.Special.{IsIncreasing}
use Rattle.circ_special.proofs.Places.{place_cmp, search_tells}
use Rattle.circ_special.proofs.place.Gamma.has.Goals as goal

pub returns : goal.returns
returns c =
    let g = place c.args.op c.args.arg in
    let list = c.as_slice.ensures.value in
    let result = c.binary_search_by-found.result in
    let found = c.binary_search_by-found.ensures.position (λ h. place_cmp h g) (always_returns_same _ _ _ (λ a r f' k. search rules)) in
    let increasing : IsIncreasing c.as_slice.result.now = subst IsIncreasing (sym list) c.self.invariant in
    let P : List Place → Type 0 = λ G. IsTrue c.is_ok.result ↔ Contains G g in
    subst P (list ∙ c.self.view_is)
    (rw c.is_ok.ensures.value (search_tells c.as_slice.result.now g result increasing c.binary_search_by-found.ensures.bound found))
