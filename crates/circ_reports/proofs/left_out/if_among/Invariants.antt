use Rattle.std.proofs.Common.{◌≡◌, map, drop}
use Rattle.std.specs.List.{list_any}
use Rattle.circ_proof.specs.Plain.{plain_links}
use Rattle.circ_reports.specs.PlainProof.{has_if}
use Rattle.circ_reports.proofs.left_out.if_among.Given as goal

abbrev pub invariant-loop-link : goal.invariant-loop-link
invariant-loop-link l = list_any has_if (plain_links (drop l.link-index l.links)) ≡ list_any has_if (plain_links l.links)
