use Rattle.std.proofs.Common.{length, sym, ◌∙◌}
use Rattle.circ_certificates.proofs.Beginning.{hole_found, hole_over, no_hole}
use Rattle.circ_certificates.proofs.Members.{all_there}
use Rattle.circ_certificates.proofs.guard.Asked.has_hole.Goals as goal

pub is_variable-requires : goal.is_variable-requires
is_variable-requires c = all_there (length c.args.self.now.nodes.now) c.args.bodies.now c.loop-body.body-index c.requires c.loop-body-test.true

pub returns-then-is_variable : goal.returns-then-is_variable
returns-then-is_variable c =
    hole_found c.args.self.now c.args.bodies.now c.loop-body.body-index c.loop-body-test.true (sym c.if-is_variable.true ∙ c.is_variable.ensures) c.loop-body.invariant

pub loop-body-preserved : goal.loop-body-preserved
loop-body-preserved c =
    hole_over c.args.self.now c.args.bodies.now c.loop-body.body-index c.loop-body-test.true (sym c.if-is_variable.false ∙ c.is_variable.ensures) c.loop-body.invariant

pub returns : goal.returns
returns c = no_hole c.args.self.now c.args.bodies.now c.loop-body.body-index c.loop-body-test.false c.loop-body.invariant
