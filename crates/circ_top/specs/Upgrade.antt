-- What status 0 of `upgrade` says.
use Rattle.std.specs.Prelude.{◌≡◌, ◌≢◌, ◌≤◌, ℕ, List, length, Some, true}
use Rattle.circ_outer.specs.Shelf.{IsQuiet}
use Rattle.circ_theory.specs.Theory.{Theory}
use Rattle.circ_proof.specs.Proof.{Proof, ProofFor}
use Rattle.circ_proof_text.specs.ProofText.{proof_text}
use Rattle.circ_files.specs.ProofFile.{TakesProof}
use Rattle.circ_files.specs.TheoryFile.{TakesTheory}
use Rattle.circ_reports.specs.Upgrade.{upgraded, upgraded_text, CheckAlike}
use Rattle.circ_top.specs.Delivery.{Prints}
use Rattle.circ_top.specs.Run.{Run}

-- Status 0 of `upgrade`: the two files read, and the named file holds the text of the proof in version 2, where the shelf tells. This is checked as the proof
-- that was read. Every other name holds what it held. The goals were printed, and the outside did not fail.
pub record StoresUpgraded (theory proof name : List ℕ) (run : Run) : Type 0 where
  pub th : Theory
  pub p : Proof
  pub takes_theory : TakesTheory theory th run.before
  pub takes_proof : TakesProof proof th p run.before
  pub proof_for : ProofFor th (upgraded p)
  pub alike : CheckAlike th p (upgraded p)
  pub short : length (proof_text (upgraded p)) ≤ 67108864
  pub holds : run.before.tells ≡ true → run.after.holds name ≡ Some (proof_text (upgraded p))
  pub others : (n : List ℕ) → n ≢ name → run.after.holds n ≡ run.before.holds n
  pub quiet : IsQuiet run.before run.after
  pub prints : Prints (upgraded_text th.signature p) run.start run.end
