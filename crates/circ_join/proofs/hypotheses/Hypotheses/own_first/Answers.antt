use Rattle.std.proofs.Common.{◌≡◌, ◌++◌, ◌+◌, ◌*◌, map, length, Some, None, ap, subst, ◌∙◌, length-append, arith}
use Rattle.std.proofs.lemmas.List.{length-map}
use Rattle.circ_index.specs.Finding.{FindsFirstPair}
use Rattle.circ_join.specs.Hypotheses.{both_sides}
use Rattle.circ_join.proofs.TwoParts.{pair_behind, no_pair_behind, place_there, earlier_count}
use Rattle.circ_join.proofs.hypotheses.Hypotheses.own_first.Goals as goal

pub overflow_add-result : goal.overflow_add-result
overflow_add-result c =
    let x = c.self.inside in
    let found = rw c.in-Some.is at c.in_ok-place.ensures in
    let e = earlier_count x.goals.items x.earlier x.own c.self.invariant.sides in
    omega (
      arith,
      place_there x.own c.args.a.now c.args.b.now c.args.from c.in-Some.place c.in-Some.subst found,
      c.requires,
      ap (λ h. length h.earlier) c.self.view_is,
      e,
      ap length c.self.invariant.sides,
      length-append x.earlier x.own,
      length-map x.goals.items both_sides,
      c.self.invariant.few,
    )

pub returns-in-Some : goal.returns-in-Some
returns-in-Some c =
    let x = c.self.inside in
    let a = c.args.a.now in
    let b = c.args.b.now in
    let p = c.in-Some.place in
    let e = earlier_count x.goals.items x.earlier x.own c.self.invariant.sides in
    let all : x.earlier ++ x.own ≡ map both_sides c.args.self.now.all = c.self.invariant.sides ∙ ap (λ h. map both_sides h.all) c.self.view_is in
    let is : c.args.before ≡ 2 * length x.earlier = omega (arith, c.requires, ap (λ h. length h.earlier) c.self.view_is, e) in
    subst (λ ps. FindsFirstPair ps (c.args.before + c.args.from) a b (Some (c.args.before + p, c.in-Some.subst))) all
    (pair_behind x.earlier x.own a b c.args.from p (c.args.before + c.args.from) (c.args.before + p) c.in-Some.subst (omega (arith, is)) (omega (arith, is))
    (rw c.in-Some.is at c.in_ok-place.ensures))

pub returns-in-None : goal.returns-in-None
returns-in-None c =
    let x = c.self.inside in
    let a = c.args.a.now in
    let b = c.args.b.now in
    let e = earlier_count x.goals.items x.earlier x.own c.self.invariant.sides in
    let all : x.earlier ++ x.own ≡ map both_sides c.args.self.now.all = c.self.invariant.sides ∙ ap (λ h. map both_sides h.all) c.self.view_is in
    let is : c.args.before ≡ 2 * length x.earlier = omega (arith, c.requires, ap (λ h. length h.earlier) c.self.view_is, e) in
    subst (λ ps. FindsFirstPair ps (c.args.before + c.args.from) a b None) all
    (no_pair_behind x.earlier x.own a b c.args.from (c.args.before + c.args.from) (omega (arith, is)) (rw c.in-None.is at c.in_ok-place.ensures))
