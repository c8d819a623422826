use Rattle.std.proofs.Common.{◌≡◌, ◌++◌, ◌+◌, List, map, drop, subst}
use Rattle.circ_term.proofs.Within.{drop_read}
use Rattle.circ_shared.specs.Patterns.{goal_at}
use Rattle.circ_shared.specs.declared.patterns.Pattern.{Pattern}
use Rattle.circ_entering.proofs.Entered.{all_at}
use Rattle.circ_entering.proofs.Working.{built_more}
use Rattle.circ_entering.proofs.building.build_hypotheses.Goals as goal

pub build_goal-requires : goal.build_goal-requires
build_goal-requires c =
    let x = c.hyp-item.result in
    let there = all_at _ c.args.hyps.now c.loop-hyp.hyp-index x c.requires.there c.loop-hyp-test.true c.hyp-item.is in
    record { conditions = rw c.as_slice.ensures.value there.conditions; sides = there.there; built = c.loop-hyp.invariant.built }

pub loop-hyp-preserved : goal.loop-hyp-preserved
loop-hyp-preserved c =
    let nodes = c.args.nodes.now in
    let at = c.loop-hyp in
    let x = c.hyp-item.result in
    let e = drop_read c.args.hyps.now at.hyp-index x c.loop-hyp-test.true c.hyp-item.is in
    let whole = map (goal_at nodes) c.args.hyps.now in
    let P : List Pattern → Type 0 = λ xs. at.made.items ++ map (goal_at nodes) xs ≡ whole in
    record {
      built = c.build_goal.ensures.built;
      made = built_more (goal_at nodes) whole at.made.items c.push.new.self.items (map (goal_at nodes) (drop (at.hyp-index + 1) c.args.hyps.now)) x
          c.in_ok-build_goal.field-0 (rw c.as_slice.ensures.value at c.in_ok-build_goal.ensures.same) c.in_ok-push.ensures.items (subst P e at.invariant.made);
    }
