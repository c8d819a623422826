use Rattle.std.proofs.Common.{[], ◌∷◌}
use Rattle.circ_theory.specs.Theory.{sides}
use Rattle.circ_join.specs.Binding.{BindsRest, have_pair_variable}
use Rattle.circ_own_rules.proofs.using.bind_goal.Goals as goal

pub returns : goal.returns
returns c =
    let of_sides : BindsRest (have_pair_variable (sides c.args.goal.now ∷ [])) c.args.subst.now c.bind_conditions.new.subst =
    rw (c.in_ok-share.ensures.same, c.in_ok-share-2.ensures.same) at c.in_ok-bind_conditions.ensures in
    record { between = c.bind_conditions.new.subst; sides = of_sides; conds = rw c.as_slice.ensures at c.in_ok-bind_conditions-2.ensures }
