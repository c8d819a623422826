-- What the status of a `check` or a `relation` says.
use Rattle.std.specs.Prelude.{◌⊎◌, ℕ, List}
use Rattle.circ_outer.specs.Shelf.{IsQuiet}
use Rattle.circ_theory.specs.Theory.{Theory}
use Rattle.circ_proof.specs.Proof.{Proof}
use Rattle.circ_files.specs.Files.{Held}
use Rattle.circ_files.specs.ProofFile.{ReadsProof}
use Rattle.circ_status.specs.Texts.{refused_text}
use Rattle.circ_files.specs.TheoryFile.{ReadsTheory}
use Rattle.circ_reports.specs.Check.{IsAccepted, StepFails}
use Rattle.circ_reports.specs.declared.report.Report.{Report}
use Rattle.circ_top.specs.Command.{Check, Expand, Asks}
use Rattle.circ_top.specs.Delivery.{Prints}
use Rattle.circ_top.specs.Run.{Run}

-- Status 0: the two files read, the proof is accepted, and every goal behaves. The report of this was printed, and the outside did not fail.
pub record Accepts (report : Report) (theory proof : List ℕ) (run : Run) : Type 0 where
  pub text : List ℕ
  pub accepted : IsAccepted report theory proof text run.before
  pub quiet : IsQuiet run.before run.after
  pub prints : Prints text run.start run.end

-- The words are a `check`, a `relation` or an `expand` of these files.
abbrev pub AsksOfProof : (words : List (List ℕ)) → (theory proof : List ℕ) → Type 0
AsksOfProof words theory proof =
    ((report : Report) × Asks words (Check report theory proof))
    ⊎ ((goal : ℕ) × (derivatives : List ℕ) × Asks words (Expand theory proof goal derivatives))

-- Status 1: the words are one of these whose files read, and step n is the first that is no instance of its rule.
pub record Rejects (run : Run) (n : ℕ) : Type 0 where
  pub theory : List ℕ
  pub proof : List ℕ
  pub asks : AsksOfProof run.words theory proof
  pub refused : StepFails theory proof n run.before
  pub quiet : IsQuiet run.before run.after
  pub prints : Prints (refused_text n) run.start run.end

-- The words are a `check` or a `relation` of two files that read as the theory and the proof.
pub record FilesRead (words : List (List ℕ)) (held : Held) (report : Report) (th : Theory) (p : Proof) : Type 0 where
  pub theory : List ℕ
  pub proof : List ℕ
  pub asks : Asks words (Check report theory proof)
  pub reads_theory : ReadsTheory held theory th
  pub reads_proof : ReadsProof held proof th p
