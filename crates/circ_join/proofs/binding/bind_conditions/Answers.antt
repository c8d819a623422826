use Rattle.std.proofs.Common.{◌+◌, drop, map}
use Rattle.circ_term.proofs.Within.{drop_read}
use Rattle.circ_theory.specs.Pairs.{plain_pair}
use Rattle.circ_join.specs.Binding.{has_pair_variable, have_pair_variable}
use Rattle.circ_join.proofs.Standing.{rest_then}
use Rattle.circ_join.proofs.binding.bind_conditions.Goals as goal

pub loop-cond-preserved : goal.loop-cond-preserved
loop-cond-preserved c =
    let ps = c.args.conds.now in
    let i = c.loop-cond.cond-index in
    let rest = have_pair_variable (map plain_pair (drop (i + 1) ps)) in
    let read = drop_read ps i c.cond-item.result c.loop-cond-test.true c.cond-item.is in
    λ τ h. (rw read at c.loop-cond.invariant) τ
    (rest_then (has_pair_variable (plain_pair c.cond-item.result)) rest c.loop-cond.subst c.bind_pair.new.subst τ c.in_ok-bind_pair.ensures h)
