use Rattle.std.proofs.Common.{◌<◌, length, ap, ◌∙◌, arith}
use Rattle.std.specs.Ordering.{ordering_then}
use Rattle.circ_term.specs.Subst.{substitution_of}
use Rattle.circ_term.specs.Substitution.{instance}
use Rattle.circ_term.proofs.Within.{depth_at}
use Rattle.circ_own_rules.specs.TermOrder.{order_to}
use Rattle.circ_own_rules.proofs.TermOrder.{instance_on, size_on, nodes_on}
use Rattle.circ_own_rules.proofs.below.+compare_instance.Goals as goal

pub compare_instances-compare_next-one-requires : goal.compare_instances-compare_next-one-requires
compare_instances-compare_next-one-requires t c =
    (omega (arith, depth_at c.args.patterns.now c.loop-i.i c.index-patterns-i.result (omega arith) c.index-patterns-i.is), tt)

pub compare_instances-loop-i-preserved : goal.compare_instances-loop-i-preserved
compare_instances-loop-i-preserved t c =
    let σ = substitution_of c.args.subst.now in
    let ps = c.args.patterns.now in
    let i = c.loop-i.i in
    let p = c.index-patterns-i.result in
    let there : i < length ps = omega arith in
    record {
      size = omega (arith, c.loop-i.invariant.size, size_on σ ps i p there c.index-patterns-i.is, c.compare_next-one.ensures.size);
      small = omega (arith, c.loop-i.invariant.small, nodes_on σ ps i p there c.index-patterns-i.is, c.compare_next-one.ensures.small);
      order =
          instance_on σ ps i p there c.index-patterns-i.is c.args.terms.now c.loop-i.order c.compare_next-one.result.order
          (c.compare_next-one.ensures.order ∙ ap (λ o. ordering_then c.loop-i.order (order_to (instance σ p) o)) c.term_at.ensures)
          ∙ c.loop-i.invariant.order;
    }
