use Rattle.std.proofs.Common.{◌+◌, ◌*◌, List, drop}
use Rattle.circ_term.specs.Tree.{trees_of, depth_of, depths_of}
use Rattle.circ_term.specs.Subst.{Bound}
use Rattle.circ_match.specs.Matcher.{have_variable}
use Rattle.circ_join.specs.Binding.{BindsRest}
use Rattle.circ_join.proofs.binding.+bind_variables.Given as goal

abbrev pub decreases-bind_variables : goal.decreases-bind_variables
decreases-bind_variables l = 2 * depth_of l.term.now

abbrev pub decreases-bind_all : goal.decreases-bind_all
decreases-bind_all l = 2 * depths_of (trees_of l.terms.now) + 1

abbrev pub invariant-bind_all-loop-term : goal.invariant-bind_all-loop-term
invariant-bind_all-loop-term l =
    (τ : List Bound) → BindsRest (have_variable (trees_of (drop l.term-index l.terms))) l.subst τ → BindsRest (have_variable (trees_of l.terms)) l.initial.subst τ
