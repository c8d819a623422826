-- A file that is stored after others were taken.
use Rattle.std.proofs.Common.{◌≡◌, ℕ, List, ◌∙◌, refl, sym, subst, arith, inl, inr, true, Option, Some, None}
use Rattle.circ_outer.specs.Count.{Rose}
use Rattle.circ_outer.specs.Shelf.{ShelfState, ShelfFrame, Struck, IsQuiet}
use Rattle.circ_outer.specs.Sink.{SinkState}
use Rattle.circ_files.specs.Quiet.{IsQuietBut}
use Rattle.circ_status.specs.declared.status.Status.{Status}
use Rattle.circ_status.specs.declared.status.Status.TheVariants as status
use Rattle.circ_files.proofs.FileFaults.{quiet_after}
use Rattle.circ_status.specs.Ending.{Stored}
use Rattle.circ_top.specs.Answer.{DueAnswer}
use Rattle.circ_top.specs.Causes.{IsQuietRun}
use Rattle.circ_top.specs.Run.{run_of}
use Rattle.circ_top.specs.Storing.{HoldsAfter, IsUnstored, FailsToStore, Ends, stored_first, not_stored, IsQuietEnd}
use Rattle.circ_top.proofs.Answers.{stored_by}

module _ (before middle after : ShelfState) (frame : ShelfFrame before middle) (quiet : IsQuiet before middle) where
  struck_since : (name : List ℕ) → Struck name true middle after → Struck name true before after
  struck_since name s = let R : ℕ → Type 0 = λ x. Rose x after.count in record { rose = subst R quiet.count s.rose; named = s.named }

  holds_since : (stored : Option Stored) → HoldsAfter stored middle after → HoldsAfter stored before after
  holds_since None h = λ n. h n ∙ frame.holds n
  holds_since (Some x) h = (λ t. h.0 (frame.tells ∙ t), λ n o. h.1 n o ∙ frame.holds n)

  unstored_since : (name : List ℕ) (s : Status) → IsUnstored name middle after s → IsUnstored name before after s
  unstored_since name (status.WriteFault n) u = (u.0, struck_since name u.1)
  unstored_since name status.Memory u = quiet_after before middle after quiet u
  unstored_since name s u = absurd u

  fails_since : (stored : Option Stored) (s : Status) → FailsToStore stored middle after s → FailsToStore stored before after s
  fails_since stored s u = record {
    file = u.file;
    is = u.is;
    why = unstored_since u.file.name s u.why;
    others = record {
      tells = u.others.tells ∙ frame.tells;
      others = λ n o. u.others.others n o ∙ frame.holds n;
      count = omega (arith, frame.count, u.others.count);
    };
  }

  pub ends_since : (words : List (List ℕ)) (start end : SinkState) (d : Status) (text : List ℕ) (stored : Option Stored) (r : Status)
      → Ends (run_of words middle after start end) d text stored r → Ends (run_of words before after start end) d text stored r
  ends_since words start end d text stored r (stored_first _ h x) = stored_first r (holds_since stored h) x
  ends_since words start end d text stored r (not_stored _ u p) = not_stored r (fails_since stored r u) p

  -- what was stored is the file of the words' command
  pub quiet_run : (words : List (List ℕ)) (other : ShelfState) (d : Status) (text : List ℕ) (stored : Option Stored) (r : Status)
      → DueAnswer words before other d text stored → IsQuietEnd stored middle after r → IsQuietRun words before after r
  quiet_run words other d text stored (status.ReadFault n) due q = tt
  quiet_run words other d text stored (status.WriteFault n) due (inl q) = inl (quiet_after before middle after quiet q)
  quiet_run words other d text stored (status.WriteFault n) due (inr q) =
      let by = stored_by words before other d text stored q.0 due q.1 in
      inr (record { command = by.command; asks = by.asks; name = q.0.name; named = by.named; struck = struck_since q.0.name q.2 })
  quiet_run words other d text stored r due q = quiet_after before middle after quiet q

module _ (words : List (List ℕ)) (before after : ShelfState) where
  any_run : (r : Status) → IsQuiet before after → IsQuietRun words before after r
  any_run (status.ReadFault n) q = tt
  any_run (status.WriteFault n) q = inl q
  any_run r q = q

  -- a refusal, by what becomes of its text
  pub refused_run : (d r : Status) → IsQuietBut before after d → ((n : ℕ) → d ≡ status.ReadFault n → r ≡ d) → IsQuietRun words before after r
  refused_run (status.ReadFault n) r q same = let P : Status → Type 0 = IsQuietRun words before after in subst P (sym (same n refl)) tt
  refused_run d r q same = any_run r q
