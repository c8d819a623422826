use Rattle.std.proofs.Common.{◌≡◌, map, drop}
use Rattle.std.specs.List.{list_any}
use Rattle.circ_proof.specs.PlainProof.{plain_certificates}
use Rattle.circ_reports.specs.PlainProof.{has_if}
use Rattle.circ_reports.proofs.left_out.certified_if.Given as goal

abbrev pub invariant-loop-links : goal.invariant-loop-links
invariant-loop-links l = list_any (λ ls. list_any has_if ls) (plain_certificates (drop l.links-index l.certificates)) ≡ list_any (λ ls. list_any has_if ls) (plain_certificates l.certificates)
