use Rattle.std.proofs.Common.{◌++◌, map, drop}
use Rattle.circ_theory.specs.Theory.{Theory}
use Rattle.circ_proof.specs.Parts.{certificate_parts, block_parts}
use Rattle.circ_proof.specs.PlainProof.{plain_proof, plain_certificates, plain_block}
use Rattle.circ_check.specs.Watching.{HasLeft}
use Rattle.circ_check.proofs.checker.Checker.take_certificates.Given as goal

abbrev pub invariant-loop-links : goal.invariant-loop-links
invariant-loop-links l = (th : Theory) → HasLeft th (plain_proof l.proof)
    (certificate_parts (plain_certificates l.proof.certificates.items) ++ block_parts (map plain_block l.proof.blocks.items)) l.initial.self
    → HasLeft th (plain_proof l.proof)
    (certificate_parts (plain_certificates (drop l.links-index l.proof.certificates.items)) ++ block_parts (map plain_block l.proof.blocks.items)) l.self
