use Rattle.std.proofs.Common.{◌≡◌, ◌++◌, ◌+◌, ◌*◌, ◌-◌, map, length, Some, ap, sym, subst, ◌∙◌, arith}
use Rattle.std.specs.Prelude.{IfOk}
use Rattle.circ_index.specs.Finding.{FindsFirstPair}
use Rattle.circ_join.specs.Hypotheses.{both_sides}
use Rattle.circ_join.proofs.TwoParts.{pair_in_front, pair_later_ok, earlier_count}
use Rattle.circ_join.proofs.hypotheses.Hypotheses.first.Goals as goal

pub own_first-requires : goal.own_first-requires
own_first-requires c =
    let x = c.self.inside in
    omega (arith, c.len.ensures, earlier_count x.goals.items x.earlier x.own c.self.invariant.sides, ap (λ h. length h.earlier) c.self.view_is)

pub own_first-requires-in-None : goal.own_first-requires-in-None
own_first-requires-in-None c =
    let x = c.self.inside in
    omega (arith, c.len.ensures, earlier_count x.goals.items x.earlier x.own c.self.invariant.sides, ap (λ h. length h.earlier) c.self.view_is)

pub returns-then-from-before-clause-found : goal.returns-then-from-before-clause-found
returns-then-from-before-clause-found c =
    let is : 2 * c.len.result + (c.args.from - 2 * c.len.result) ≡ c.args.from = omega (arith, c.if-from-before.true) in
    subst (λ n. IfOk c.own_first.result (FindsFirstPair (map both_sides c.args.self.now.all) n c.args.a.now c.args.b.now)) is c.own_first.ensures

pub returns-in-Some-clause-found : goal.returns-in-Some-clause-found
returns-in-Some-clause-found c =
    let x = c.self.inside in
    let a = c.args.a.now in
    let b = c.args.b.now in
    let f = c.in-Some.found in
    let all : x.earlier ++ x.own ≡ map both_sides c.args.self.now.all = c.self.invariant.sides ∙ ap (λ h. map both_sides h.all) c.self.view_is in
    subst (λ ps. FindsFirstPair ps c.args.from a b (Some f)) all (pair_in_front x.earlier x.own a b c.args.from f.0 f.1 (rw c.in-Some.is at c.in_ok-found.ensures))

pub returns-in-None-clause-found : goal.returns-in-None-clause-found
returns-in-None-clause-found c =
    let x = c.self.inside in
    let a = c.args.a.now in
    let b = c.args.b.now in
    let all : x.earlier ++ x.own ≡ map both_sides c.args.self.now.all = c.self.invariant.sides ∙ ap (λ h. map both_sides h.all) c.self.view_is in
    let none = rw c.in-None.is at c.in_ok-found.ensures in
    let is : 2 * c.len.result + 0 ≡ 2 * length x.earlier = omega (arith, c.len.ensures) in
    subst (λ ps. IfOk c.own_first-in-None.result (FindsFirstPair ps c.args.from a b)) all
    (pair_later_ok x.earlier x.own a b c.args.from (2 * c.len.result + 0) c.own_first-in-None.result is (omega (arith, c.if-from-before.false)) none
    (subst (λ ps. IfOk c.own_first-in-None.result (FindsFirstPair ps (2 * c.len.result + 0) a b)) (sym all) c.own_first-in-None.ensures))
