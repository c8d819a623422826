use Rattle.std.proofs.Common.{◌≡◌}
use Rattle.circ_certificates.proofs.Beginning.{any_from_place}
use Rattle.circ_certificates.proofs.guard.Asked.has_hole.Given as goal

abbrev pub invariant-loop-body : goal.invariant-loop-body
invariant-loop-body l = any_from_place l.self l.bodies l.body-index ≡ any_from_place l.self l.bodies 0
