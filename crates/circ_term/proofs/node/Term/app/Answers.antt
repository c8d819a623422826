use Rattle.std.proofs.Common.{◌≡◌, ◌+◌, drop, ◌&&◌, arith, sym, ◌∙◌, ap, None}
use Rattle.std.proofs.Math.Bool.{and_assoc}
use Rattle.circ_term.specs.Tree.{trees_of, are_ground}
use Rattle.circ_term.specs.Fingerprint.{mixed, fingerprint_after}
use Rattle.circ_term.specs.Limits.{first_limit, first_limits, or_else}
use Rattle.circ_term.proofs.Within.{drop_read}
use Rattle.circ_term.proofs.Limits.{first_limit_none}
use Rattle.circ_term.proofs.node.Term.app.Goals as goal

pub loop-arg-preserved : goal.loop-arg-preserved
loop-arg-preserved c =
    let e = drop_read c.deref-arg-items.result.now c.loop-arg.arg-index c.arg-item.result c.loop-arg-test.true c.arg-item.is in
    let sizes = rw e at c.loop-arg.invariant.sizes in
    let depths = rw e at c.loop-arg.invariant.depths in
    let limits = rw e at c.loop-arg.invariant.limits in
    let rest = are_ground (trees_of (drop (c.loop-arg.arg-index + 1) c.deref-arg-items.result.now)) in
    let without_variable = rw e at c.loop-arg.invariant.without_variable in
    let own : first_limit c.arg-item.result ≡ None = first_limit_none c.arg-item.result (omega arith) (omega arith) in
    record {
      sizes = omega arith;
      depths = omega arith;
      limits = ap (λ o. or_else o (first_limits (trees_of (drop (c.loop-arg.arg-index + 1) c.deref-arg-items.result.now)))) (sym own) ∙ limits;
      without_variable =
          and_assoc c.loop-arg.is_ground c.is_ground-is_ground.result rest
          ∙ ap (λ b. c.loop-arg.is_ground && (b && rest)) c.is_ground-is_ground.ensures
          ∙ without_variable;
      fingerprint =
          ap (λ h. fingerprint_after h (trees_of (drop (c.loop-arg.arg-index + 1) c.deref-arg-items.result.now))) c.mixed-fingerprint.ensures
          ∙ ap (λ k. fingerprint_after (mixed c.loop-arg.fingerprint k) (trees_of (drop (c.loop-arg.arg-index + 1) c.deref-arg-items.result.now)))
          c.fingerprint.ensures
          ∙ rw e at c.loop-arg.invariant.fingerprint;
      few = omega arith;
      depth_small = omega arith;
    }
