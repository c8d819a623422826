-- What `contexts` answers, and its outcome.
use Rattle.std.proofs.Common.{◌≡◌, ℕ, List, refl, subst, true, None, ap, sym, ◌∙◌}
use Rattle.circ_outer.specs.Shelf.{ShelfState}
use Rattle.circ_theory.specs.Theory.{Theory}
use Rattle.circ_plain_search.proofs.Unique.{one_set}
use Rattle.circ_show.specs.PlacesText.{place_lines}
use Rattle.circ_top.specs.Command.{Contexts, Asks}
use Rattle.circ_files.specs.Files.{RefusesFile}
use Rattle.circ_files.specs.Like.{IsLike, itself}
use Rattle.circ_reports.specs.Contexts.{IsContextsText, ContextsOutcome, not_listed, listed, IsListed}
use Rattle.circ_top.specs.Refusals.{refusal_text}
use Rattle.circ_read.specs.ReadsAs.{ReadsAs}
use Rattle.circ_files.specs.TheoryFile.{ReadsTheory, TheoryRefusal, IsTheoryFault}
use Rattle.circ_status.specs.declared.status.Status.{Status}
use Rattle.circ_status.specs.declared.status.Status.TheVariants as status
use Rattle.circ_files.proofs.Readings.{ReadsOnce}
use Rattle.circ_top.proofs.Agreeing.{DueIs, file_due, Agrees, alike, unread_file, memory}
use Rattle.circ_files.proofs.FileFaults.{FaultOf, fault_of, refuses, unread, out_of_memory, reads_not_refused, refused_held, holds_held}
use Rattle.circ_top.proofs.Refused.{refused_alike}
use Rattle.circ_files.proofs.FileFaults.{unread_rose}

-- a theory has one text with each budget
one_text : (th : Theory) (budget : ℕ) (text other : List ℕ) → IsContextsText th budget text → IsContextsText th budget other → text ≡ other
one_text th budget text other a b =
    let e = one_set th budget a.places b.places a.traces b.traces a.greatest b.greatest in
    a.text_is ∙ ap (place_lines th.signature) e.0 ∙ sym b.text_is

pub due_contexts : (words : List (List ℕ)) (budget : ℕ) (theory : List ℕ) (before after : ShelfState) (s : Status) → before.tells ≡ true → Asks words (Contexts budget theory)
    → IsTheoryFault theory before after s
    → DueIs words before after s (refusal_text (Contexts budget theory) s) None
due_contexts words budget theory before after s t i f = file_due words (Contexts budget theory) before after 1 theory TheoryRefusal s t i f (λ r x. (not_listed r x, refl))

-- a success is the outcome
pub listed_outcome : (budget : ℕ) (theory text : List ℕ) (before : ShelfState) → before.tells ≡ true → IsListed budget theory text before
    → ContextsOutcome before.holds budget theory status.Ok text
listed_outcome budget theory text before t a = listed a.th text (a.takes_theory.reads t).0 a.lines_are

module _ (once : ReadsOnce) (budget : ℕ) (theory : List ℕ) (before after : ShelfState) (t : before.tells ≡ true) where
  contexts_held : (s : Status) (text : List ℕ) → ContextsOutcome before.holds budget theory s text → before.holds theory ≡ None → ⊥
  contexts_held s _ (not_listed _ r) e = refused_held before.holds 1 theory TheoryRefusal s r e
  contexts_held _ _ (listed u text ru x) e = holds_held before.holds theory (λ b. ReadsAs b u) ru e

  not_theory : (s : Status) (u : Theory) → ReadsTheory before.holds theory u → RefusesFile before.holds 1 theory TheoryRefusal s → ⊥
  not_theory s u ru x = reads_not_refused before.holds 1 theory TheoryRefusal (λ b. ReadsAs b u) s ru (λ p c b h n. once.either b u p c h n) x

  pub contexts_agrees : (r s : Status) (text : List ℕ) → IsTheoryFault theory before after r → ContextsOutcome before.holds budget theory s text
      → Agrees before after s text r (refusal_text (Contexts budget theory) r)
  contexts_agrees r s text f c = go r s text (fault_of 1 theory TheoryRefusal before after r t f) c
    where
      go : (r s : Status) (text : List ℕ) → FaultOf 1 theory TheoryRefusal before after r → ContextsOutcome before.holds budget theory s text
          → Agrees before after s text r (refusal_text (Contexts budget theory) r)
      go r s _ (refuses _ x) (not_listed _ y) =
          alike r (refusal_text (Contexts budget theory) r) (refused_alike (Contexts budget theory) before.holds 1 theory TheoryRefusal s r once.alike y x)
      go r _ _ (refuses _ x) (listed u text ru p) = absurd (not_theory r u ru x)
      go _ s text (unread n e u) c = unread_file n (unread_rose theory before after (contexts_held s text c) u)
      go _ s text out_of_memory c = memory

  pub listed_agrees : (given : List ℕ) → IsListed budget theory given before → (s : Status) (text : List ℕ) → ContextsOutcome before.holds budget theory s text
      → Agrees before after s text status.Ok given
  listed_agrees given a s _ (not_listed _ r) = absurd (not_theory s a.th (a.takes_theory.reads t).0 r)
  listed_agrees given a _ text (listed u _ ru p) =
      let P : Theory → Type 0 = λ x. IsContextsText x budget text in
      let same : text ≡ given = one_text a.th budget text given (subst P ((a.takes_theory.reads t).1 u ru) p) a.lines_are in
      let Q : List ℕ → Type 0 = λ x. IsLike status.Ok text status.Ok x in
      alike status.Ok given (subst Q same (itself status.Ok text))
