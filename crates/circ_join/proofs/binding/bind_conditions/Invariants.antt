use Rattle.std.proofs.Common.{List, map, drop}
use Rattle.circ_term.specs.Subst.{Bound}
use Rattle.circ_theory.specs.Pairs.{plain_pair}
use Rattle.circ_join.specs.Binding.{BindsRest, have_pair_variable}
use Rattle.circ_join.proofs.binding.bind_conditions.Given as goal

abbrev pub invariant-loop-cond : goal.invariant-loop-cond
invariant-loop-cond l =
    (τ : List Bound) → BindsRest (have_pair_variable (map plain_pair (drop l.cond-index l.conds))) l.subst τ → BindsRest (have_pair_variable (map plain_pair l.conds)) l.initial.subst τ
