-- Answers over a shelf and a sink whose counts of faults stay.
use Rattle.std.proofs.Common.{◌≡◌, ℕ, List, ◌⊎◌, inl, inr, true, refl, arith, Option, Some, None}
use Rattle.std.specs.Prelude.{IsSome}
use Rattle.circ_outer.specs.Count.{Rose}
use Rattle.circ_outer.specs.Shelf.{ShelfState}
use Rattle.circ_top.specs.Causes.{IsOutcomeOrFault, AnswersOutcome, printed, not_read, not_written, not_put, no_memory, AtFile, IsWriteFault}
use Rattle.circ_top.specs.Command.{Command, Check, Prove, Show, Contexts, Reduce, Same, Differ, Trace, Regex, Upgrade, Expand, Library, Generate}
use Rattle.circ_files.specs.Files.{IsUnread}
use Rattle.circ_top.specs.InMemory.{HoldsFilesOf, HoldsFiles, AppendsAnswer, Appends}
use Rattle.circ_status.specs.Ending.{Stored}
use Rattle.circ_top.specs.Outcome.{Outcome}
use Rattle.circ_top.specs.Promises.{Promises}
use Rattle.circ_top.specs.Run.{Run}
use Rattle.circ_status.specs.declared.status.Status.{Status}
use Rattle.circ_status.specs.declared.status.Status.TheVariants as status
use Rattle.circ_files.proofs.FileFaults.{unread_rose}

pub never_rose : Rose 0 0 → ⊥
never_rose (inl l) = omega (arith, l)
never_rose (inr e) = omega (arith, e)

some_held : {X : Type 0} (o : Option X) → IsSome o → o ≡ None → ⊥
some_held (Some x) i e = cc
some_held None i e = cc

held_file : (before after : ShelfState) (c : Command) → (Rose before.count after.count → ⊥) → HoldsFilesOf before.holds c
    → AtFile before c (λ file name. IsUnread name before after) → ⊥
held_file before after (Check report theory proof) quiet h (inl u) = quiet (unread_rose theory before after (some_held (before.holds theory) h.0) u)
held_file before after (Check report theory proof) quiet h (inr u) = quiet (unread_rose proof before after (some_held (before.holds proof) h.1) u.1.1)
held_file before after (Prove limits theory script proof) quiet h (inl u) = quiet (unread_rose theory before after (some_held (before.holds theory) h.0) u)
held_file before after (Prove limits theory script proof) quiet h (inr u) = quiet (unread_rose script before after (some_held (before.holds script) h.1) u.1.1)
held_file before after (Show theory) quiet h u = quiet (unread_rose theory before after (some_held (before.holds theory) h) u)
held_file before after (Contexts budget theory) quiet h u = quiet (unread_rose theory before after (some_held (before.holds theory) h) u)
held_file before after (Reduce budget theory script) quiet h (inl u) = quiet (unread_rose theory before after (some_held (before.holds theory) h.0) u)
held_file before after (Reduce budget theory script) quiet h (inr u) = quiet (unread_rose script before after (some_held (before.holds script) h.1) u.1.1)
held_file before after (Same first second) quiet h (inl u) = quiet (unread_rose first before after (some_held (before.holds first) h.0) u)
held_file before after (Same first second) quiet h (inr u) = quiet (unread_rose second before after (some_held (before.holds second) h.1) u.1.1)
held_file before after (Differ limits theory script) quiet h (inl u) = quiet (unread_rose theory before after (some_held (before.holds theory) h.0) u)
held_file before after (Differ limits theory script) quiet h (inr u) = quiet (unread_rose script before after (some_held (before.holds script) h.1) u.1.1)
held_file before after (Trace limits theory script) quiet h (inl u) = quiet (unread_rose theory before after (some_held (before.holds theory) h.0) u)
held_file before after (Trace limits theory script) quiet h (inr u) = quiet (unread_rose script before after (some_held (before.holds script) h.1) u.1.1)
held_file before after (Regex limits left right proof) quiet h u = u
held_file before after (Upgrade theory proof new) quiet h (inl u) = quiet (unread_rose theory before after (some_held (before.holds theory) h.0) u)
held_file before after (Upgrade theory proof new) quiet h (inr u) = quiet (unread_rose proof before after (some_held (before.holds proof) h.1) u.1.1)
held_file before after (Expand theory proof goal derivatives) quiet h (inl u) = quiet (unread_rose theory before after (some_held (before.holds theory) h.0) u)
held_file before after (Expand theory proof goal derivatives) quiet h (inr u) = quiet (unread_rose proof before after (some_held (before.holds proof) h.1) u.1.1)
held_file before after (Library text) quiet h u = u
held_file before after (Generate n) quiet h u = u

-- an answer without a fault, by the text that a sink that tells got
appends : (run : Run) (r : Status) → run.start.tells ≡ true → ((n : ℕ) → r ≡ status.ReadFault n → ⊥) → ((n : ℕ) → r ≡ status.WriteFault n → ⊥)
    → IsOutcomeOrFault run r → Appends run r
appends run (status.ReadFault n) t f g c = absurd (f n refl)
appends run (status.WriteFault n) t f g c = absurd (g n refl)
appends run status.Memory t f g c = tt
appends run r t f g c = record { text = c.text; stored = c.stored; outcome = c.outcome; held = c.held; appended = c.prints.printed t }

appends_answer : (run : Run) (s r : Status) (text : List ℕ) (stored : Option Stored) → run.start.tells ≡ true
    → (Rose run.before.count run.after.count → ⊥) → (Rose run.start.count run.end.count → ⊥) → AnswersOutcome run s text stored r
    → AppendsAnswer run s text stored r ⊎ (r ≡ status.Memory)
appends_answer run s r text stored t f g (printed _ given l h p) = inl (record { given = given; like = l; held = h; appended = p.printed t })
appends_answer run s _ text stored t f g (not_read n rose p) = absurd (f rose)
appends_answer run s _ text stored t f g (not_written n rose h p) = absurd (g rose)
appends_answer run s _ text stored t f g (not_put n x e c k o p) = absurd (f k.rose)
appends_answer run s _ text stored t f g (no_memory p) = inr refl

-- what is promised of a run, where the shelf's count of faults stays
module _ (run : Run) (r : Status) (said : Promises run r) (quiet : Rose run.before.count run.after.count → ⊥) where
  pub always_read : HoldsFiles run.words run.before.holds → (n : ℕ) → r ≡ status.ReadFault n → ⊥
  always_read held n e = let f = said.read_fault n e in held_file run.before run.after f.command quiet (held f.command f.asks) f.unread

  -- and the sink's too
  module _ (sure : Rose run.start.count run.end.count → ⊥) where
    pub always_written : (n : ℕ) → r ≡ status.WriteFault n → ⊥
    always_written n e = go (said.write_fault n e)
      where
        go : IsWriteFault run n → ⊥
        go (inl u) = sure u.rose
        go (inr u) = quiet u.put.struck.rose

    -- and where both tell
    pub sure_outcome : run.before.tells ≡ true → run.start.tells ≡ true → HoldsFiles run.words run.before.holds → Appends run r
    sure_outcome t u held = appends run r u (always_read held) always_written (said.outcome t)

    pub sure_answer : run.before.tells ≡ true → run.start.tells ≡ true → (s : Status) (text : List ℕ) (stored : Option Stored)
        → Outcome run.words run.before.holds s text stored → AppendsAnswer run s text stored r ⊎ (r ≡ status.Memory)
    sure_answer t u s text stored c = appends_answer run s r text stored u quiet sure (said.complete t s text stored c)
