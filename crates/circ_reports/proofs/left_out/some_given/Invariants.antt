use Rattle.std.proofs.Common.{◌≡◌, map, drop}
use Rattle.std.specs.List.{list_any}
use Rattle.circ_proof.specs.PlainProof.{plain_block}
use Rattle.circ_reports.specs.PlainProof.{has_given}
use Rattle.circ_reports.proofs.left_out.some_given.Given as goal

abbrev pub invariant-loop-block : goal.invariant-loop-block
invariant-loop-block l = list_any (λ b. list_any has_given b.names) (map plain_block (drop l.block-index l.blocks)) ≡ list_any (λ b. list_any has_given b.names) (map plain_block l.blocks)
