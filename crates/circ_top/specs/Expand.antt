-- What status 0 of `expand` says.
use Rattle.std.specs.Prelude.{ℕ, List}
use Rattle.circ_outer.specs.Shelf.{IsQuiet}
use Rattle.circ_theory.specs.Theory.{Theory}
use Rattle.circ_proof.specs.Accepted.{Accepted}
use Rattle.circ_proof.specs.Proof.{Proof}
use Rattle.circ_files.specs.TheoryFile.{TakesTheory}
use Rattle.circ_reports.specs.Expand.{ShowsDerivation}
use Rattle.circ_reports.specs.PlainProof.{TakesPlainProof}
use Rattle.circ_top.specs.Delivery.{Prints}
use Rattle.circ_top.specs.Run.{Run}

-- Status 0 of `expand`: the two files read, the proof is accepted, and what is printed leads from the experiment on the left side of the goal to that on its
-- right side, with no hypothesis (`ShowsDerivation`). The outside did not fail.
pub record WritesDerivation (theory proof : List ℕ) (goal : ℕ) (derivatives : List ℕ) (run : Run) : Type 0 where
  pub th : Theory
  pub p : Proof
  pub takes_theory : TakesTheory theory th run.before
  pub takes_proof : TakesPlainProof proof th p run.before
  pub accepted : Accepted th p
  pub text : List ℕ
  pub shows : ShowsDerivation th p goal derivatives text
  pub quiet : IsQuiet run.before run.after
  pub prints : Prints text run.start run.end
