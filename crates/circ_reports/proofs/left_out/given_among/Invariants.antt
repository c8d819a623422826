use Rattle.std.proofs.Common.{◌≡◌, map, drop}
use Rattle.std.specs.List.{list_any}
use Rattle.circ_proof.specs.PlainProof.{plain_names}
use Rattle.circ_reports.specs.PlainProof.{has_given}
use Rattle.circ_reports.proofs.left_out.given_among.Given as goal

abbrev pub invariant-loop-name : goal.invariant-loop-name
invariant-loop-name l = list_any has_given (map plain_names (drop l.name-index l.names)) ≡ list_any has_given (map plain_names l.names)
