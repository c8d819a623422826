use Rattle.std.proofs.Common.{length, take, ap, sym, ◌∙◌, length-append, arith}
use Rattle.std.proofs.lemmas.List.{length-take}
use Rattle.circ_join.proofs.hypotheses.Hypotheses.finish_block.Goals as goal

pub push_earlier-requires-clause-none : goal.push_earlier-requires-clause-none
push_earlier-requires-clause-none c = ap (λ h. h.all) c.loop-goal.invariant ∙ sym (ap (λ h. h.earlier) c.loop-goal.invariant)

pub push_earlier-requires-clause-few : goal.push_earlier-requires-clause-few
push_earlier-requires-clause-few c =
    let i = c.loop-goal.goal-index in
    let goals = c.args.goals.now in
    omega (
      arith,
      ap (λ h. length h.earlier) c.loop-goal.invariant,
      length-append c.args.self.now.earlier (take i goals),
      length-take i goals,
      c.loop-goal-test.true,
      c.requires.few,
    )
