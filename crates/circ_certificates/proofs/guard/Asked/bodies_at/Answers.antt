use Rattle.std.proofs.Common.{sym, ◌∙◌}
use Rattle.circ_nodes.specs.Named.{tree_at}
use Rattle.circ_certificates.proofs.Beginning.{derivative_here, derivatives_over, begun_first, begun_next, begun_over, begun_all}
use Rattle.circ_certificates.proofs.guard.Asked.bodies_at.Goals as goal
use Rattle.circ_certificates.proofs.guard.Asked.bodies_at.Goals.{then-begins+in_ok-push, else-begins}

pub loop-derivative-init : goal.loop-derivative-init
loop-derivative-init c =
    let a = c.args.self.now in
    let v = c.args.visit.now in
    begun_first a v.is_special (tree_at a.nodes.now v.term) a.rules.theory.now.derivatives v.bodies.items c.in_ok-bodies.bodies.items
    (c.in_ok-bodies.ensures.ok ∙ c.as_slice.ensures) c.requires.visit.bodies

pub begins-requires-clause-derivative : goal.begins-requires-clause-derivative
begins-requires-clause-derivative c =
    let x = derivative_here c.args.self.now c.requires.asked c.loop-derivative.derivative-index c.derivative-item.result c.loop-derivative-test.true c.derivative-item.is in
    (x.0, x.2)

pub loop-derivative-preserved : goal.loop-derivative-preserved
loop-derivative-preserved c =
    let a = c.args.self.now in
    let v = c.args.visit.now in
    let at = c.loop-derivative in
    let i = at.derivative-index in
    let t = tree_at a.nodes.now v.term in
    let ds = a.rules.theory.now.derivatives in
    let x = derivative_here a c.requires.asked i c.derivative-item.result c.loop-derivative-test.true c.derivative-item.is in
    elim c.if-begins.branch [
      | then-begins+in_ok-push w ↦
          rw w.bodies-is
          (begun_next a v.is_special t ds v.bodies.items i x.0 c.derivative-item.result at.bodies.items _ x.1 x.2 (sym w.if-begins.true ∙ c.begins.ensures x.0 x.2)
          w.in_ok-push.ensures.ok at.invariant)
      | else-begins w ↦
          rw w.bodies-is (begun_over a v.is_special t ds v.bodies.items i x.0 at.bodies.items x.1 (sym w.if-begins.false ∙ c.begins.ensures x.0 x.2) at.invariant)
    ]

pub returns-clause-there : goal.returns-clause-there
returns-clause-there c = c.loop-derivative.invariant.there

pub returns-clause-bodies : goal.returns-clause-bodies
returns-clause-bodies c =
    let a = c.args.self.now in
    let v = c.args.visit.now in
    let at = c.loop-derivative in
    begun_all a v.is_special (tree_at a.nodes.now v.term) a.rules.theory.now.derivatives v.bodies.items at.derivative-index at.bodies.items
    (derivatives_over a c.requires.asked at.derivative-index c.loop-derivative-test.false) at.invariant
