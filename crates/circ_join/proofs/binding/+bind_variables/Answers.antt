use Rattle.std.proofs.Common.{◌+◌, drop, arith}
use Rattle.circ_term.specs.Tree.{trees_of}
use Rattle.circ_term.proofs.Within.{depth_at, drop_read}
use Rattle.circ_match.specs.Matcher.{has_variable, have_variable}
use Rattle.circ_join.proofs.Standing.{rest_then}
use Rattle.circ_join.proofs.binding.+bind_variables.Goals as goal

pub bind_all-bind_variables-requires : goal.bind_all-bind_variables-requires
bind_all-bind_variables-requires t c = (omega (arith, depth_at c.args.terms.now c.loop-term.term-index c.term-item.result (omega arith) c.term-item.is), tt)

pub bind_all-loop-term-preserved : goal.bind_all-loop-term-preserved
bind_all-loop-term-preserved t c =
    let ts = c.args.terms.now in
    let i = c.loop-term.term-index in
    let rest = have_variable (trees_of (drop (i + 1) ts)) in
    let read = drop_read ts i c.term-item.result c.loop-term-test.true c.term-item.is in
    λ τ h. (rw read at c.loop-term.invariant) τ (rest_then (has_variable c.term-item.result) rest c.loop-term.subst c.bind_variables.new.subst τ c.in_ok-bind_variables.ensures h)
