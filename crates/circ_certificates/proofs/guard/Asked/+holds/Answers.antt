use Rattle.std.proofs.Common.{◌≡◌, ◌<◌, ◌⊎◌, ◌↔◌, ◌++◌, ℕ, List, IsTrue, IfOk, true, length, slice_index_or, refl, ap, sym, subst, ◌∙◌, arith}
use Rattle.std.specs.List.{AllByRecursion, Contains}
use Rattle.circ_term.specs.Tree.{Tree, Var, App, trees_of}
use Rattle.circ_term.proofs.Trees.{list_of-trees_of}
use Rattle.circ_nodes.specs.Named.{tree_at}
use Rattle.circ_nodes.proofs.Located.{tree_named}
use Rattle.circ_certificates.specs.declared.guard.Visit.{Visit}
use Rattle.circ_certificates.specs.Covering.{numbered_terms, begun, IsCovered, AreCovered}
use Rattle.circ_certificates.proofs.Covering.{ground_covered, variable_covered, application_covered, if_told}
use Rattle.circ_certificates.proofs.Members.{above_least, above_each, all_there, args_there, args_counted}
use Rattle.circ_certificates.proofs.Seeing.{seen_holds, seen_put, hold_next, hold_stops, hold_all}
use Rattle.circ_certificates.proofs.guard.Asked.+holds.Goals as goal

-- ---- what is not gone over

pub holds-returns-then-is_ground-clause-exact : goal.holds-returns-then-is_ground-clause-exact
holds-returns-then-is_ground-clause-exact t c =
    let a = c.args.self.now in
    let v = c.args.visit in
    ((λ y. ground_covered a (v.is_special ≡ true) (numbered_terms a v.bodies.items) (tree_at a.nodes.now v.term) (sym c.is_ground.ensures ∙ c.if-is_ground.true)), (λ g. refl))

pub holds-returns-then-contains-clause-exact : goal.holds-returns-then-contains-clause-exact
holds-returns-then-contains-clause-exact t c =
    ((λ y. seen_holds c.args.self.now c.args.visit c.args.seen.now.keys (sym c.contains.ensures ∙ c.if-contains.true) c.requires.seen), (λ g. refl))

pub holds-holds_below-requires : goal.holds-holds_below-requires
holds-holds_below-requires t c = (omega arith, (c.requires.asked, (c.requires.visit, c.requires.seen)))

pub holds-returns-then-not-branch-clause-exact : goal.holds-returns-then-not-branch-clause-exact
holds-returns-then-not-branch-clause-exact t c = rw c.if-not-branch.true at c.in_ok-holds_below.ensures.exact

pub holds-returns-clause-seen : goal.holds-returns-clause-seen
holds-returns-clause-seen t c =
    let exact = rw c.if-not-branch.false at c.in_ok-holds_below.ensures.exact in
    seen_put c.args.self.now c.args.visit c.holds_below.new.seen.keys c.insert.new.self.keys c.in_ok-insert.ensures.keys (exact.0 refl) c.in_ok-holds_below.ensures.seen

pub holds-returns-clause-exact : goal.holds-returns-clause-exact
holds-returns-clause-exact t c = rw c.if-not-branch.false at c.in_ok-holds_below.ensures.exact

-- ---- a variable, or the arguments of an operator

pub holds_below-at_variable-requires : goal.holds_below-at_variable-requires
holds_below-at_variable-requires t c =
    subst (AllByRecursion (λ n. n < length c.args.self.now.nodes.now)) (sym c.as_slice.ensures) c.in_ok-bodies.ensures.there

pub holds_below-returns-in-Variable-clause-exact : goal.holds_below-returns-in-Variable-clause-exact
holds_below-returns-in-Variable-clause-exact t c =
    let a = c.args.self.now in
    let v = c.args.visit.now in
    let x = c.in-Variable in
    let r = c.at_variable.result in
    let u = tree_at a.nodes.now v.term in
    let e : u ≡ Var x.number x.sort = x.ensures.shape u (tree_named a.nodes.now v.term c.requires.visit.term) in
    let bs = numbered_terms a v.bodies.items in
    let cs = numbered_terms a c.in_ok-bodies.bodies.items in
    let is : cs ≡ bs ++ begun a v.is_special (Var x.number x.sort) a.rules.theory.now.derivatives
    = c.in_ok-bodies.ensures.bodies ∙ ap (λ y. bs ++ begun a v.is_special y a.rules.theory.now.derivatives) e in
    let P : List ℕ → Type 0 = λ ns. IsTrue r ↔ (Var x.number x.sort ≡ Var a.id a.sort → (v.is_special ≡ true) ⊎ Contains (numbered_terms a ns) (Var 0 a.sort)) in
    let Q : Tree → Type 0 = λ y. IsTrue r ↔ IsCovered a (v.is_special ≡ true) bs y in
    subst Q (sym e) (variable_covered a c.known.ensures v.is_special x.number x.sort bs cs is r (subst P c.as_slice.ensures c.at_variable.ensures))

pub holds_below-all_hold-requires : goal.holds_below-all_hold-requires
holds_below-all_hold-requires t c =
    let a = c.args.self.now in
    let v = c.args.visit.now in
    let x = c.in-Application in
    let there = args_there a.nodes.now v.term x.op x.sort x.args.now c.requires.visit.term x.ensures.shape in
    let least = above_least x.args.now v.term x.ensures.before in
    let few = x.ensures.few (tree_at a.nodes.now v.term) (tree_named a.nodes.now v.term c.requires.visit.term) in
    let long = args_counted a.nodes.now (tree_at a.nodes.now v.term) x.op x.sort x.args.now there.1 in (
      omega (arith, least),
      (
        c.requires.asked,
        (
          there.0,
          (omega (arith, few, long), (subst (AllByRecursion (λ n. n < length a.nodes.now)) (sym c.as_slice-in-Application.ensures) c.in_ok-bodies.ensures.there, c.requires.seen)),
        ),
      ),
    )

pub holds_below-returns-clause-exact : goal.holds_below-returns-clause-exact
holds_below-returns-clause-exact t c =
    let a = c.args.self.now in
    let v = c.args.visit.now in
    let x = c.in-Application in
    let u = tree_at a.nodes.now v.term in
    let us = numbered_terms a x.args.now in
    let e = (args_there a.nodes.now v.term x.op x.sort x.args.now c.requires.visit.term x.ensures.shape).1 in
    let bs = numbered_terms a v.bodies.items in
    let cs = numbered_terms a c.in_ok-bodies.bodies.items in
    let is : cs ≡ bs ++ begun a v.is_special (App x.op x.sort (trees_of us)) a.rules.theory.now.derivatives
    = c.in_ok-bodies.ensures.bodies ∙ ap (λ y. bs ++ begun a v.is_special y a.rules.theory.now.derivatives) e in
    if_told (AreCovered a (v.is_special ≡ true) x.op cs us) (IsCovered a (v.is_special ≡ true) bs u) c.all_hold.result
    (λ r h. subst (λ y. IsTrue r ↔ IsCovered a (v.is_special ≡ true) bs y) (sym e)
    (application_covered a c.known.ensures v.is_special x.op x.sort (trees_of us) bs cs is r
    (subst (λ ys. IsTrue r ↔ AreCovered a (v.is_special ≡ true) x.op cs ys) (sym (list_of-trees_of us)) h)))
    (subst (λ ns. IfOk c.all_hold.result (λ b. IsTrue b ↔ AreCovered a (v.is_special ≡ true) x.op (numbered_terms a ns) us)) c.as_slice-in-Application.ensures c.all_hold.ensures.exact)

-- ---- one argument after another

pub all_hold-loop-place-init : goal.all_hold-loop-place-init
all_hold-loop-place-init t c = record { seen = c.requires.seen; first = λ j u l e. absurd (omega (arith, l)) }

pub all_hold-holds-requires : goal.all_hold-holds-requires
all_hold-holds-requires t c =
    let a = c.args.self.now in
    let i = c.loop-place.place in
    let there = all_there (length a.nodes.now) c.args.args.now i c.requires.args c.loop-place-test.true in
    let below = above_each c.args.args.now i c.loop-place-test.true in
    (omega (arith, below), (c.requires.asked, (record { term = there; bodies = c.in_ok-inner.ensures.there }, c.loop-place.invariant.seen)))

pub all_hold-returns-then-not-branch-clause-exact : goal.all_hold-returns-then-not-branch-clause-exact
all_hold-returns-then-not-branch-clause-exact t c =
    let a = c.args.self.now in
    let i = c.loop-place.place in
    let v : Visit = record { term = slice_index_or c.args.args.now i 0; is_special = c.goes_on.result; bodies = c.in_ok-inner.inner } in
    let exact = rw c.if-not-branch.true at c.in_ok-holds.ensures.exact in
    hold_stops a (c.args.is_special ≡ true) c.args.op c.args.bodies.now c.args.args.now i c.loop-place-test.true v refl c.in_ok-inner.ensures.below c.goes_on.ensures
    (λ h. absurd (let z = exact.1 h in cc))

pub all_hold-loop-place-preserved : goal.all_hold-loop-place-preserved
all_hold-loop-place-preserved t c =
    let a = c.args.self.now in
    let i = c.loop-place.place in
    let v : Visit = record { term = slice_index_or c.args.args.now i 0; is_special = c.goes_on.result; bodies = c.in_ok-inner.inner } in
    let exact = rw c.if-not-branch.false at c.in_ok-holds.ensures.exact in
    record {
      seen = c.in_ok-holds.ensures.seen;
      first =
          hold_next a (c.args.is_special ≡ true) c.args.op c.args.bodies.now c.args.args.now i c.loop-place-test.true v refl c.in_ok-inner.ensures.below c.goes_on.ensures
          (exact.0 refl) c.loop-place.invariant.first;
    }

pub all_hold-returns-clause-exact : goal.all_hold-returns-clause-exact
all_hold-returns-clause-exact t c =
    hold_all c.args.self.now (c.args.is_special ≡ true) c.args.op c.args.bodies.now c.args.args.now c.loop-place.place c.loop-place-test.false
    c.loop-place.invariant.first
