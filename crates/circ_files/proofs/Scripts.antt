-- That scripts read in one way, as the laws of the crate below say.
use Rattle.std.proofs.Common.{◌≡◌, ℕ, List, Err, refl, sym, ◌∙◌}
use Rattle.circ_outer.specs.Shelf.{ShelfState, ShelfFrame}
use Rattle.circ_theory.specs.Theory.{Theory}
use Rattle.circ_read.specs.Causes.{AreAlike}
use Rattle.circ_read.specs.declared.cause.Cause.{Cause}
use Rattle.circ_script.specs.Script.{Script}
use Rattle.circ_script.specs.ReadsAsScript.{ReadsAsScript}
use Rattle.circ_script.specs.Refusing.{FirstScriptCause}
use Rattle.circ_script.specs.declared.job.Job.{Job}
use Rattle.circ_files.specs.Files.{Held}
use Rattle.circ_files.specs.ScriptFile.{TakesScript, ScriptRefusal}
use Rattle.circ_files.proofs.Readings.{like_causes}
use Rattle.circ_files.proofs.FileFaults.{IsOneWay, moved}

pub record ScriptsOnce : Type 0 where
  pub either : (th : Theory) (job : Job) (bytes : List ℕ) (s : Script) (n : ℕ) (c : Cause) → ReadsAsScript th job bytes s → FirstScriptCause th job bytes n c → ⊥
  pub alike : (th : Theory) (job : Job) → IsOneWay (ScriptRefusal th job)
  pub script : (th : Theory) (job : Job) (bytes : List ℕ) (s t : Script) → ReadsAsScript th job bytes s → ReadsAsScript th job bytes t → t ≡ s

pub scripts_once : ((th : Theory) (job : Job) (bytes : List ℕ) (s : Script) (n : ℕ) (c : Cause) → ReadsAsScript th job bytes s → FirstScriptCause th job bytes n c → ⊥)
    → ((th : Theory) (job : Job) (bytes : List ℕ) (n m : ℕ) (c d : Cause) → FirstScriptCause th job bytes n c → FirstScriptCause th job bytes m d → m ≡ n)
    → ((th : Theory) (job : Job) (bytes : List ℕ) (n m : ℕ) (c d : Cause) → FirstScriptCause th job bytes n c → FirstScriptCause th job bytes m d
    → AreAlike {A = Script} (Err c) (Err d))
    → ((th : Theory) (job : Job) (bytes : List ℕ) (s t : Script) → ReadsAsScript th job bytes s → ReadsAsScript th job bytes t → t ≡ s) → ScriptsOnce
scripts_once e n l t = record {
  either = e;
  script = t;
  alike = λ th job p q c d bytes a b. (sym (n th job bytes p q c d a b), like_causes c d (Err c) (Err d) (l th job bytes p q c d a b) refl refl);
}

-- a script that is taken after a call is taken before it
pub script_before : (name : List ℕ) (th : Theory) (job : Job) (s : Script) (before middle : ShelfState) → ShelfFrame before middle
    → TakesScript name th job s middle → TakesScript name th job s before
script_before name th job s before middle f t =
    let h : Held = before.holds in
    let k : Held = middle.holds in
    let same = f.holds name in
    record {
      bytes = t.bytes;
      reads = λ e. let r = t.reads (f.tells ∙ e) in (
        moved h k name (λ bytes. ReadsAsScript th job bytes s) same r.0,
        λ q x. r.1 q (moved k h name (λ bytes. ReadsAsScript th job bytes q) (sym same) x),
      );
    }
