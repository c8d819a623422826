use Rattle.std.proofs.Common.{◌≡◌, ◌++◌, take, map, length, ap, sym, ◌∙◌, arith}
use Rattle.std.proofs.Math.Seq.{take-append_seam}
use Rattle.std.proofs.lemmas.List.{append-nil, length-take, take-map}
use Rattle.circ_join.specs.Hypotheses.{both_sides}
use Rattle.circ_join.proofs.hypotheses.Hypotheses.forget_own.Goals as goal

pub invariant_of-self : goal.invariant_of-self
invariant_of-self c =
    let x = c.self.inside in
    let n = c.len.result in
    let goals = x.goals.items in
    let kept : c.truncate.new.self.items ≡ take n goals = c.truncate.ensures.items in
    let front : take n (map both_sides goals) ≡ x.earlier
    = ap (take n) (sym c.self.invariant.sides) ∙ ap (λ k. take k (x.earlier ++ x.own)) c.len.ensures ∙ take-append_seam x.earlier x.own in
    record {
      sides = ap (λ o. x.earlier ++ o) c.new.ensures ∙ append-nil x.earlier ∙ sym front ∙ take-map both_sides n goals ∙ ap (map both_sides) (sym kept);
      few = omega (arith, ap length kept, length-take n goals, c.self.invariant.few);
    }
