-- What is found of the proof file, where the theory file reads.
use Rattle.std.specs.Prelude.{ℕ, List}
use Rattle.circ_outer.specs.Shelf.{ShelfState}
use Rattle.circ_theory.specs.Theory.{Theory}
use Rattle.circ_proof.specs.Accepted.{FirstFail}
use Rattle.circ_proof.specs.Proof.{Proof}
use Rattle.circ_reports.specs.Check.{Proves}
use Rattle.circ_files.specs.ProofFile.{TakesProof, IsProofFault}
use Rattle.circ_reports.specs.declared.report.Report.{Report}
use Rattle.circ_status.specs.declared.status.Status.{Status}
use Rattle.circ_status.specs.declared.status.Status.TheVariants as status

-- The named file reads, and its proof is accepted, with this text.
pub record AcceptsProof (report : Report) (name : List ℕ) (th : Theory) (text : List ℕ) (before : ShelfState) : Type 0 where
  pub p : Proof
  pub proves : Proves report th p text
  pub takes_proof : TakesProof name th p before

-- Why it is refused: the file is at fault; or it reads, and step n is the first that is no instance of its rule.
pub data RefusesProof (name : List ℕ) (th : Theory) (before after : ShelfState) : Status → Type 0 where
  file_fault : (s : Status) → IsProofFault name th before after s → RefusesProof name th before after s
  step_fails : (n : ℕ) (p : Proof) → TakesProof name th p before → FirstFail th p n → RefusesProof name th before after (status.Refused n)
