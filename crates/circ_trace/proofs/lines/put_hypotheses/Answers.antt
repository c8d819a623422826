use Rattle.std.proofs.Common.{◌≡◌, ◌∷◌, ◌+◌, List, drop}
use Rattle.circ_term.proofs.Within.{drop_read}
use Rattle.circ_theory.specs.Goal.{Goal}
use Rattle.circ_trace.proofs.Listing.{one_line}
use Rattle.circ_trace.proofs.lines.put_hypotheses.Goals as goal

pub loop-goal-preserved : goal.loop-goal-preserved
loop-goal-preserved c =
    let gs : List Goal = c.args.goals.now in
    let i = c.loop-goal.goal-index in
    let front : drop i gs ≡ c.goal-item.result ∷ drop (i + 1) gs = drop_read gs i c.goal-item.result c.loop-goal-test.true c.goal-item.is in
    one_line c.args.theory.now.signature c.loop-goal.out.items c.put_hypothesis.new.out.items _ c.loop-goal.before c.in_ok-number.number c.goal-item.result
    (drop i gs) (drop (i + 1) gs) front c.in_ok-number.ensures c.in_ok-put_hypothesis.ensures c.loop-goal.invariant
