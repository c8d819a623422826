-- How the answer that is due and the outcome agree.
use Rattle.std.proofs.Common.{◌≡◌, ℕ, List, [], ◌∷◌, ◌++◌, refl, sym, subst, ◌∙◌, append-nil, true, Option, Some, None}
use Rattle.circ_outer.specs.Count.{Rose}
use Rattle.circ_outer.specs.Shelf.{ShelfState}
use Rattle.circ_outer.specs.Sink.{SinkState}
use Rattle.circ_theory.specs.Theory.{Theory}
use Rattle.circ_show.specs.TheoryText.{IsTheoryText}
use Rattle.circ_top.specs.Causes.{PrintsPartOf, AnswersOutcome, printed, not_read, not_written, not_put, no_memory}
use Rattle.circ_top.specs.Command.{Command, Asks}
use Rattle.circ_top.specs.Delivery.{Prints, PrintsPart, PrintsFront, Delivers, whole, write_failed, memory_wanted, text_wanted}
use Rattle.circ_files.specs.Files.{Refusal, RefusesFile, IsFileFault}
use Rattle.circ_files.specs.Like.{IsLike, itself}
use Rattle.circ_status.specs.Ending.{Stored}
use Rattle.circ_top.specs.Outcome.{OutcomeOf, Outcome, command}
use Rattle.circ_top.specs.Run.{Run}
use Rattle.circ_top.specs.Storing.{HoldsAfter, IsUnstored, FailsToStore, Ends, stored_first, not_stored}
use Rattle.circ_top.specs.Refusals.{refusal_text}
use Rattle.circ_status.specs.declared.status.Status.{Status}
use Rattle.circ_status.specs.declared.status.Status.TheVariants as status
use Rattle.circ_files.proofs.FileFaults.{FaultOf, fault_of, refuses, unread, out_of_memory}

-- the answer that is due is an outcome, or there is no text, since a file was not read or memory ran out
pub data DueIs (words : List (List ℕ)) (before after : ShelfState) : Status → List ℕ → Option Stored → Type 0 where
  outcome : (s : Status) (text : List ℕ) (stored : Option Stored) → Outcome words before.holds s text stored → DueIs words before after s text stored
  nothing_read : (n : ℕ) → DueIs words before after (status.ReadFault n) [] None
  no_memory_left : DueIs words before after status.Memory [] None

-- a file's fault as an outcome, by what its refusal comes to
pub file_due : (words : List (List ℕ)) (k : Command) (before after : ShelfState) (file : ℕ) (name : List ℕ) (N : Refusal) (s : Status) → before.tells ≡ true
    → Asks words k
    → IsFileFault file name N before after s → ((r : Status) → RefusesFile before.holds file name N r → OutcomeOf before.holds k r (refusal_text k r) None)
    → DueIs words before after s (refusal_text k s) None
file_due words k before after file name N s t i f g = go s (fault_of file name N before after s t f)
  where
    go : (s : Status) → FaultOf file name N before after s → DueIs words before after s (refusal_text k s) None
    go s (refuses _ r) = outcome s (refusal_text k s) None (command k s (refusal_text k s) None i (g s r))
    go _ (unread n e u) = nothing_read n
    go _ out_of_memory = no_memory_left

-- the due answer is like the outcome, or a file was not read, or memory ran out
pub data Agrees (before after : ShelfState) (s : Status) (text : List ℕ) : Status → List ℕ → Type 0 where
  alike : (r : Status) (given : List ℕ) → IsLike s text r given → Agrees before after s text r given
  unread_file : (n : ℕ) → Rose before.count after.count → Agrees before after s text (status.ReadFault n) []
  memory : Agrees before after s text status.Memory []

-- the same, with what is stored
pub data AgreesWith (before after : ShelfState) (s : Status) (text : List ℕ) (stored : Option Stored) : Status → List ℕ → Option Stored → Type 0 where
  agreed : (r : Status) (given : List ℕ) (other : Option Stored) → IsLike s text r given → other ≡ stored → AgreesWith before after s text stored r given other
  unread_file_with : (n : ℕ) → Rose before.count after.count → AgreesWith before after s text stored (status.ReadFault n) [] None
  memory_with : AgreesWith before after s text stored status.Memory [] None

-- where nothing is stored
pub stored_nothing : (before after : ShelfState) (s : Status) (text : List ℕ) (stored : Option Stored) (r : Status) (given : List ℕ) → stored ≡ None
    → Agrees before after s text r given → AgreesWith before after s text stored r given None
stored_nothing before after s text stored r given e (alike _ _ l) = agreed r given None l (sym e)
stored_nothing before after s text stored _ _ e (unread_file n rose) = unread_file_with n rose
stored_nothing before after s text stored _ _ e memory = memory_with

-- theories are printed in one way
abbrev pub PrintsOnce : Type 0
PrintsOnce = (th : Theory) (text other : List ℕ) → IsTheoryText th text → IsTheoryText th other → text ≡ other

-- what is printed of the text that is due is a part of the outcome's
pub nothing_part : (text : List ℕ) (start end : SinkState) → PrintsPart [] start end → PrintsPart text start end
nothing_part text start end p = λ t. go (p t).0 (p t).1.0 (p t).1.1.0 (p t).1.1.1
  where
    go : (part rest : List ℕ) → [] ≡ part ++ rest → end.written ≡ start.written ++ part
        → (q : List ℕ) × ((r : List ℕ) × ((text ≡ q ++ r) × (end.written ≡ start.written ++ q)))
    go [] rest e f = ([], (text, (refl, f)))
    go (x ∷ xs) rest e f = absurd (cc)

pub whole_part : (text : List ℕ) (start end : SinkState) → Prints text start end → PrintsPart text start end
whole_part text start end p = λ t. (text, ([], (sym (append-nil text), p.printed t)))

-- what is not the whole is a part
pub front_part : (text : List ℕ) (start end : SinkState) → PrintsFront text start end → PrintsPart text start end
front_part text start end p = λ t. ((p t).0, ((p t).1.0, (p t).1.1.1))

-- a part of the text itself
itself_part : (s : Status) (text : List ℕ) (start end : SinkState) → PrintsPart text start end → PrintsPartOf s text start end
itself_part s text start end p = record { answer = s; given = text; like = itself s text; part = p }

module _ (run : Run) (s : Status) (text : List ℕ) where
  nothing_printed : Prints [] run.start run.end → PrintsPartOf s text run.start run.end
  nothing_printed p = itself_part s text run.start run.end (nothing_part text run.start run.end (whole_part [] run.start run.end p))

  front_printed : PrintsFront [] run.start run.end → PrintsPartOf s text run.start run.end
  front_printed p = itself_part s text run.start run.end (nothing_part text run.start run.end (front_part [] run.start run.end p))

  -- a like answer, by what becomes of its text
  like_answers : (stored : Option Stored) (d r : Status) (given : List ℕ) → HoldsAfter stored run.before run.after → IsLike s text d given
      → Delivers given run.start run.end d r → AnswersOutcome run s text stored r
  like_answers stored d _ given h l (whole p) = printed d given l h p
  like_answers stored d _ given h l (write_failed n some c rose p) =
      not_written n rose h (record { answer = d; given = given; like = l; part = front_part given run.start run.end p })
  like_answers stored d _ given h l (memory_wanted q p) = no_memory (record { answer = d; given = given; like = l; part = front_part given run.start run.end p })
  like_answers stored d _ given h l (text_wanted p) =
      no_memory (record { answer = d; given = given; like = l; part = nothing_part given run.start run.end (whole_part [] run.start run.end p) })

  -- an answer without a text, of a file that was not read
  unread_answers : (stored : Option Stored) (n : ℕ) (r : Status) → Rose run.before.count run.after.count → Delivers [] run.start run.end (status.ReadFault n) r
      → AnswersOutcome run s text stored r
  unread_answers stored n _ rose (whole p) = not_read n rose p
  unread_answers stored n _ rose (write_failed m some c up p) = absurd (some refl)
  unread_answers stored n _ rose (memory_wanted q p) = no_memory (front_printed p)
  unread_answers stored n _ rose (text_wanted p) = no_memory (nothing_printed p)

  memory_answers : (stored : Option Stored) (r : Status) → Delivers [] run.start run.end status.Memory r → AnswersOutcome run s text stored r
  memory_answers stored _ (whole p) = no_memory (nothing_printed p)
  memory_answers stored _ (write_failed m some c up p) = absurd (some refl)
  memory_answers stored _ (memory_wanted q p) = no_memory (front_printed p)
  memory_answers stored _ (text_wanted p) = no_memory (nothing_printed p)

  -- what was to be stored was not
  unstored_answers : (stored other : Option Stored) (r : Status) → other ≡ stored → FailsToStore other run.before run.after r → Prints [] run.start run.end
      → AnswersOutcome run s text stored r
  unstored_answers stored other r e u p = go r u.why
    where
      go : (r : Status) → IsUnstored u.file.name run.before run.after r → AnswersOutcome run s text stored r
      go (status.WriteFault n) w = not_put n u.file (sym e ∙ u.is) w.0 w.1 u.others p
      go status.Memory w = no_memory (nothing_printed p)
      go _ w = absurd w

  nothing_unstored : {A : Type 0} → (r : Status) → FailsToStore None run.before run.after r → A
  nothing_unstored r u = absurd (let never : None ≡ Some u.file = u.is in cc)

  pub agree_answers : (stored other : Option Stored) (d r : Status) (given : List ℕ) → AgreesWith run.before run.after s text stored d given other
      → Ends run d given other r → AnswersOutcome run s text stored r
  agree_answers stored other d r given (agreed _ _ _ l e) (stored_first _ h x) =
      let H : Option Stored → Type 0 = λ y. HoldsAfter y run.before run.after in like_answers stored d r given (subst H e h) l x
  agree_answers stored other d r given (agreed _ _ _ l e) (not_stored _ u p) = unstored_answers stored other r e u p
  agree_answers stored _ _ r _ (unread_file_with n rose) (stored_first _ h x) = unread_answers stored n r rose x
  agree_answers stored _ _ r _ (unread_file_with n rose) (not_stored _ u p) = nothing_unstored r u
  agree_answers stored _ _ r _ memory_with (stored_first _ h x) = memory_answers stored r x
  agree_answers stored _ _ r _ memory_with (not_stored _ u p) = nothing_unstored r u

  -- whatever is answered, a part of a like answer's text is printed
  pub answers_part : (stored : Option Stored) (r : Status) → AnswersOutcome run s text stored r → PrintsPartOf s text run.start run.end
  answers_part stored _ (printed r given l h p) = record { answer = r; given = given; like = l; part = whole_part given run.start run.end p }
  answers_part stored _ (not_read n rose p) = itself_part s text run.start run.end (nothing_part text run.start run.end (whole_part [] run.start run.end p))
  answers_part stored _ (not_written n rose h p) = p
  answers_part stored _ (not_put n x e c k o p) = nothing_printed p
  answers_part stored _ (no_memory p) = p
