-- What is found of the proof file, by what is found of its bytes.
use Rattle.std.proofs.Common.{◌≡◌, ◌≤◌, ℕ, List, length, Some, true, Result, Ok, Err, Vec}
use Rattle.std.specs.Prelude.{IfOk, IfErr}
use Rattle.circ_outer.specs.Shelf.{ShelfState, ShelfFrame, IsQuiet}
use Rattle.circ_theory.specs.Theory.{Theory}
use Rattle.circ_proof.specs.Proof.{Proof}
use Rattle.circ_proof_text.specs.ProofText.{ReadsAsProof}
use Rattle.circ_reports.specs.Check.{IsAccepted, RefusesCheck, proof_fault}
use Rattle.circ_reports.specs.Check as check
use Rattle.circ_reports.specs.CheckProof.{AcceptsProof, RefusesProof, file_fault, step_fails}
use Rattle.circ_reports.specs.Incoming.{AreAtFault, Judges, RefusesBytes}
use Rattle.circ_files.specs.ProofFile.{TakesProof, ProofRefusal, IsProofFault}
use Rattle.circ_files.specs.Quiet.{IsQuietBut, IsQuietCall}
use Rattle.circ_files.specs.TheoryFile.{TakesTheory}
use Rattle.circ_reports.specs.declared.report.Report.{Report}
use Rattle.circ_status.specs.declared.status.Status.{Status}
use Rattle.circ_status.specs.declared.status.Status.TheVariants as status
use Rattle.circ_files.proofs.FileFaults.{only_read, taken_before, quiet_fault}

-- the bytes read as one proof at most
abbrev pub OneProof : Theory → Type 0
OneProof th = (bytes : List ℕ) (p q : Proof) → ReadsAsProof th bytes p → ReadsAsProof th bytes q → p ≡ q

module _ (name : List ℕ) (th : Theory) (before : ShelfState) (bytes : List ℕ) (short : length bytes ≤ 67108864)
    (held : before.tells ≡ true → before.holds name ≡ Some bytes) where
  pub takes : OneProof th → (p : Proof) → ReadsAsProof th bytes p → TakesProof name th p before
  takes one p reads = record {
    bytes = record { bytes = bytes; short = short; are = reads };
    reads = λ t. only_read before.holds name bytes (ReadsAsProof th) p (held t) short (reads, λ q other. one bytes q p other reads);
  }

  pub accepts : {A : Type 0} → OneProof th → (report : Report) (r : Result (Vec ℕ A) Status) → Judges report th bytes r
      → IfOk r (λ v. AcceptsProof report name th v.items before)
  accepts one report (Ok v) j = record { p = j.0; proves = j.2; takes_proof = takes one j.0 j.1 }
  accepts one report (Err s) j = tt

  refuses_status : OneProof th → (after : ShelfState) (s : Status) → RefusesBytes th bytes s → RefusesProof name th before after s
  refuses_status one after (status.Refused n) r = step_fails n r.0 (takes one r.0 r.1) r.2
  refuses_status one after (status.Unreadable f place c) r =
      file_fault (status.Unreadable f place c)
      (r.0, record { bytes = bytes; short = short; are = r.1 }, λ t. record { bytes = bytes; bytes_are = held t; short = short; are = r.1 })
  refuses_status one after status.Memory r = file_fault status.Memory tt
  refuses_status one after s r = absurd r

  pub at_fault : (after : ShelfState) (s : Status) → AreAtFault th bytes s → IsProofFault name th before after s
  at_fault after (status.Unreadable f place c) r =
      (r.0, record { bytes = bytes; short = short; are = r.1 }, λ t. record { bytes = bytes; bytes_are = held t; short = short; are = r.1 })
  at_fault after status.Memory r = tt
  at_fault after s r = absurd r

  pub refuses : {A : Type 0} → OneProof th → (after : ShelfState) (report : Report) (r : Result (Vec ℕ A) Status) → Judges report th bytes r
      → IfErr r (RefusesProof name th before after)
  refuses one after report (Ok v) j = tt
  refuses one after report (Err s) j = refuses_status one after s j

quiet_status : (th : Theory) (bytes : List ℕ) (before after : ShelfState) (s : Status) → IsQuiet before after → RefusesBytes th bytes s → IsQuietBut before after s
quiet_status th bytes before after (status.Refused n) q r = q
quiet_status th bytes before after (status.Unreadable f place c) q r = q
quiet_status th bytes before after status.Memory q r = q
quiet_status th bytes before after s q r = absurd r

pub judged_quiet : {A : Type 0} (report : Report) (th : Theory) (bytes : List ℕ) (before after : ShelfState) (r : Result (Vec ℕ A) Status)
    → IsQuiet before after → Judges report th bytes r → IsQuietCall before after r
judged_quiet report th bytes before after (Ok v) q j = q
judged_quiet report th bytes before after (Err s) q j = quiet_status th bytes before after s q j

module _ (report : Report) (theory proof : List ℕ) (th : Theory) (before middle after : ShelfState) (takes_theory : TakesTheory theory th before)
    (frame : ShelfFrame before middle) (quiet : IsQuiet before middle) where
  pub accepted_since : (text : List ℕ) → AcceptsProof report proof th text middle → IsAccepted report theory proof text before
  accepted_since text a = record {
    th = th;
    p = a.p;
    proves = a.proves;
    takes_theory = takes_theory;
    takes_proof = taken_before proof th a.p before middle frame a.takes_proof;
  }

  pub refused_since : (s : Status) → RefusesProof proof th middle after s → RefusesCheck theory proof before after s
  refused_since s (file_fault _ f) = proof_fault s th takes_theory (quiet_fault 2 proof (ProofRefusal th) before middle after s frame quiet f)
  refused_since _ (step_fails n p t f) = check.step_fails n (record {
    th = th;
    p = p;
    fails = f;
    takes_theory = takes_theory;
    takes_proof = taken_before proof th p before middle frame t;
  })
