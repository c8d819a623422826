-- What `show` answers, and its outcome.
use Rattle.std.proofs.Common.{◌≡◌, ℕ, List, refl, subst, true, None}
use Rattle.circ_outer.specs.Shelf.{ShelfState}
use Rattle.circ_theory.specs.Theory.{Theory}
use Rattle.circ_read.specs.ReadsAs.{ReadsAs}
use Rattle.circ_show.specs.TheoryText.{IsTheoryText}
use Rattle.circ_top.specs.Command.{Show, Asks}
use Rattle.circ_files.specs.Files.{RefusesFile}
use Rattle.circ_files.specs.Like.{IsLike, itself}
use Rattle.circ_reports.specs.Show.{ShowOutcome, not_shown, shown, IsShown}
use Rattle.circ_top.specs.Refusals.{refusal_text}
use Rattle.circ_files.specs.TheoryFile.{ReadsTheory, TheoryRefusal, IsTheoryFault}
use Rattle.circ_status.specs.declared.status.Status.{Status}
use Rattle.circ_status.specs.declared.status.Status.TheVariants as status
use Rattle.circ_files.proofs.Readings.{ReadsOnce}
use Rattle.circ_top.proofs.Agreeing.{DueIs, file_due, Agrees, alike, unread_file, memory, PrintsOnce}
use Rattle.circ_files.proofs.FileFaults.{FaultOf, fault_of, refuses, unread, out_of_memory, reads_not_refused, refused_held, holds_held}
use Rattle.circ_top.proofs.Refused.{refused_alike}
use Rattle.circ_files.proofs.FileFaults.{unread_rose}

pub due_show : (words : List (List ℕ)) (theory : List ℕ) (before after : ShelfState) (s : Status) → before.tells ≡ true → Asks words (Show theory)
    → IsTheoryFault theory before after s
    → DueIs words before after s (refusal_text (Show theory) s) None
due_show words theory before after s t i f = file_due words (Show theory) before after 1 theory TheoryRefusal s t i f (λ r x. (not_shown r x, refl))

-- a success is the outcome
pub shown_outcome : (theory text : List ℕ) (before : ShelfState) → before.tells ≡ true → IsShown theory text before
    → ShowOutcome before.holds theory status.Ok text
shown_outcome theory text before t a = shown a.th text (a.takes_theory.reads t).0 a.text_is

module _ (once : ReadsOnce) (theory : List ℕ) (before after : ShelfState) (t : before.tells ≡ true) where
  show_held : (s : Status) (text : List ℕ) → ShowOutcome before.holds theory s text → before.holds theory ≡ None → ⊥
  show_held s _ (not_shown _ r) e = refused_held before.holds 1 theory TheoryRefusal s r e
  show_held _ _ (shown u text ru x) e = holds_held before.holds theory (λ b. ReadsAs b u) ru e

  not_theory : (s : Status) (u : Theory) → ReadsTheory before.holds theory u → RefusesFile before.holds 1 theory TheoryRefusal s → ⊥
  not_theory s u ru x = reads_not_refused before.holds 1 theory TheoryRefusal (λ b. ReadsAs b u) s ru (λ p c b h n. once.either b u p c h n) x

  pub show_agrees : (r s : Status) (text : List ℕ) → IsTheoryFault theory before after r → ShowOutcome before.holds theory s text
      → Agrees before after s text r (refusal_text (Show theory) r)
  show_agrees r s text f c = go r s text (fault_of 1 theory TheoryRefusal before after r t f) c
    where
      go : (r s : Status) (text : List ℕ) → FaultOf 1 theory TheoryRefusal before after r → ShowOutcome before.holds theory s text
          → Agrees before after s text r (refusal_text (Show theory) r)
      go r s _ (refuses _ x) (not_shown _ y) =
          alike r (refusal_text (Show theory) r) (refused_alike (Show theory) before.holds 1 theory TheoryRefusal s r once.alike y x)
      go r _ _ (refuses _ x) (shown u text ru p) = absurd (not_theory r u ru x)
      go _ s text (unread n e u) c = unread_file n (unread_rose theory before after (show_held s text c) u)
      go _ s text out_of_memory c = memory

  pub shown_agrees : PrintsOnce → (given : List ℕ) → IsShown theory given before → (s : Status) (text : List ℕ) → ShowOutcome before.holds theory s text
      → Agrees before after s text status.Ok given
  shown_agrees printed_once given a s _ (not_shown _ r) = absurd (not_theory s a.th (a.takes_theory.reads t).0 r)
  shown_agrees printed_once given a _ text (shown u _ ru p) =
      let P : Theory → Type 0 = λ x. IsTheoryText x text in
      let same : text ≡ given = printed_once a.th text given (subst P ((a.takes_theory.reads t).1 u ru) p) a.text_is in
      let Q : List ℕ → Type 0 = λ x. IsLike status.Ok text status.Ok x in
      alike status.Ok given (subst Q same (itself status.Ok text))
