-- What it is to decode bytes.
use Rattle.std.specs.Prelude.{◌≡◌, List, ℕ, map, Result, Ok, Err}
use Rattle.circ_term.specs.Tree.{Tree}
use Rattle.circ_theory.specs.Theory.{Theory}
use Rattle.circ_proof.specs.PlainProof.{plain_proof, plain_names, plain_block, plain_steps, plain_certificates}
use Rattle.circ_proof.specs.declared.proof.Proof.{Proof as CodeProof}
use Rattle.circ_proof_text.specs.ProofText.{ReadsAsProof}
use Rattle.circ_proof_text.specs.Parts.{Gathered}
use Rattle.circ_file.specs.Feeding.{FaultIs}
use Rattle.circ_file.specs.declared.fault.FileFault.{FileFault}
use Rattle.circ_file.specs.declared.decoding.Gathering.{Gathering}

-- the proof that the bytes read as, or their first cause
abbrev pub Decodes : Theory → List ℕ → Result CodeProof FileFault → Type 0
Decodes th bytes (Ok p) = ReadsAsProof th bytes (plain_proof p)
Decodes th bytes (Err e) = FaultIs th bytes e

-- the same, and the lines are those of its table
abbrev pub DecodesWithTable : Theory → List ℕ → Result (CodeProof × List Tree) FileFault → Type 0
DecodesWithTable th bytes (Ok r) = ReadsAsProof th bytes (plain_proof r.0) × (r.1 ≡ (plain_proof r.0).table)
DecodesWithTable th bytes (Err e) = FaultIs th bytes e

-- what is gathered so far
abbrev pub gathered_of : Gathering → Gathered
gathered_of g = record {
  table = g.table;
  places = g.proof.gamma;
  certificates = plain_certificates g.proof.certificates.items;
  blocks = map plain_block g.proof.blocks.items;
  goals = g.goals.items;
  names = map plain_names g.names.items;
  steps = plain_steps g.steps.items;
}
