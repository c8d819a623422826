use Rattle.std.proofs.Common.{ap}
use Rattle.circ_proof.specs.Rules.{Simplify}
use Rattle.circ_numbering.proofs.whys.step.Goals as goal

pub returns-in-Ok : goal.returns-in-Ok
returns-in-Ok c = rw c.in-Simplify.is (c.in-Ok.ensures.0, λ table a. ap Simplify (c.in-Ok.ensures.1 table a))
