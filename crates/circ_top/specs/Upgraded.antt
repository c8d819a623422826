-- What a proof in version 2 is to the one that was read: its text, and how it is checked.
use Rattle.std.specs.Prelude.{◌≡◌, ℕ, List, ◌∷◌, ◌++◌, codes, Some}
use Rattle.circ_theory.specs.Theory.{Theory}
use Rattle.circ_theory.specs.WellFormed.{IsWellFormed}
use Rattle.circ_proof.specs.Proof.{Proof}
use Rattle.circ_proof_text.specs.ProofText.{proof_text}
use Rattle.circ_files.specs.Files.{Held}
use Rattle.circ_files.specs.ProofFile.{ReadsProof}
use Rattle.circ_files.specs.TheoryFile.{ReadsTheory}
use Rattle.circ_top.specs.Command.{Check, Asks}
use Rattle.circ_reports.specs.Upgrade.{upgraded}
use Rattle.circ_reports.specs.declared.report.Report.{Report}

-- The texts are the same but for one byte, the version. It is 2 in the second.
pub record DifferInVersion (first second : List ℕ) : Type 0 where
  pub version : ℕ
  pub rest : List ℕ
  pub first_is : first ≡ codes "circproof " ++ version ∷ rest
  pub second_is : second ≡ codes "circproof " ++ 50 ∷ rest

-- The words ask for a report of a proof, and the second words for the same report of this proof in version 2, over a theory of the same bytes.
pub record AsksOfUpgraded (words second : List (List ℕ)) (held later : Held) : Type 0 where
  pub report : Report
  pub theory : List ℕ
  pub proof : List ℕ
  pub later_theory : List ℕ
  pub later_proof : List ℕ
  pub asks : Asks words (Check report theory proof)
  pub asks_again : Asks second (Check report later_theory later_proof)
  pub th : Theory
  pub p : Proof
  pub well_formed : IsWellFormed th
  pub reads_theory : ReadsTheory held theory th
  pub reads_proof : ReadsProof held proof th p
  pub same_theory : later later_theory ≡ held theory
  pub upgraded_proof : later later_proof ≡ Some (proof_text (upgraded p))
