use Rattle.std.proofs.Common.{◌≡◌, List, ap, sym, subst, ◌∙◌}
use Rattle.std.proofs.lemmas.Result.{IfOk-weaker}
use Rattle.circ_special.specs.declared.place.Place.{Place}
use Rattle.circ_contexts.specs.Candidates.{AreCandidates, IsGreatest, places_of}
use Rattle.circ_contexts.proofs.Dropping.{all_placed, stands_first, is_set, is_greatest}
use Rattle.circ_contexts.proofs.candidates.Means.greatest_set.Goals as goal

pub candidates-requires : goal.candidates-requires
candidates-requires c = record {
  reducer = c.requires.reducer;
  places = rw c.as_slice.ensures.value (all_placed c.args.self.now.theory.now c.args.self.now.budget c.in_ok-places.ensures);
}

pub greatest-requires : goal.greatest-requires
greatest-requires c =
    let th = c.args.self.now.theory.now in
    let P : List Place → Type 0 = λ gs. AreCandidates th c.args.self.now.budget gs c.in_ok-candidates.candidates.items in
    stands_first th c.args.self.now.budget c.in_ok-places.places.items c.in_ok-candidates.candidates.items c.in_ok-places.ensures
    (subst P c.as_slice.ensures.value c.in_ok-candidates.ensures.exact)

pub set_of-requires : goal.set_of-requires
set_of-requires c =
    rw c.as_slice-2.ensures.value (is_set c.args.self.now.theory.now c.args.self.now.budget c.in_ok-left.left.items c.in_ok-left.ensures.stands)

pub returns-clause-exact : goal.returns-clause-exact
returns-clause-exact c =
    let th = c.args.self.now.theory.now in
    let b = c.args.self.now.budget in
    let cs = c.in_ok-left.left.items in
    let last : IsGreatest th b (places_of cs) = is_greatest th b cs c.in_ok-left.ensures in
    IfOk-weaker c.set_of.result (λ g. g ≡ places_of c.as_slice-2.result.now) (IsGreatest th b)
    (λ g is. let same : g ≡ places_of cs = is ∙ ap places_of c.as_slice-2.ensures.value in subst (IsGreatest th b) (sym same) last) c.set_of.ensures
