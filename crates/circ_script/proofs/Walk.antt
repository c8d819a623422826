-- A walk over the items of a script, from stop to stop.
use Rattle.std.proofs.Common.{◌≡◌, ◌≢◌, ℕ, ◌+◌, ◌*◌, ◌<◌, ◌≤◌, List, [], length, drop, slice_range, Some, None, Result, Ok, Err, ◌-◌, ◌⊎◌, inl, inr}
use Rattle.std.proofs.Common.{sym, ap, ◌∙◌, subst, arith}
use Rattle.std.proofs.lemmas.Bool.{cases_lt}
use Rattle.std.proofs.lemmas.List.{length-drop}
use Rattle.circ_lexer.specs.declared.fault.LexFault.{LexFault}
use Rattle.circ_lexer.specs.declared.fault.LexFault.TheVariants as lex
use Rattle.circ_lexer.specs.TokenList.{TokenList, tokens_of, tokens_in, IsWithin, AreTokens, GivesTokens}
use Rattle.circ_theory.specs.Theory.{Theory}
use Rattle.circ_script.specs.declared.script.Script as made
use Rattle.circ_lexer.specs.declared.tokens.Span.{Span}
use Rattle.circ_statement.specs.Words.{Word}
use Rattle.circ_read.specs.declared.cause.Cause.{Cause}
use Rattle.circ_read.specs.declared.cause.Fault.{Fault}
use Rattle.circ_read.specs.declared.cause.Fault.TheVariants.{Because, Memory}
use Rattle.circ_read.specs.declared.cause.ReadFault.{ReadFault}
use Rattle.circ_read.specs.declared.cause.ReadFault.TheVariants as at
use Rattle.circ_read.specs.Text.{HasNoStop}
use Rattle.circ_read.specs.Steps.{StepAnswers, IsStopAfter, byte_fault, fault_at}
use Rattle.circ_script.specs.declared.job.Job.{Job}
use Rattle.circ_script.specs.Items.{Item, variables, goal, coinduction, reduce, IsItem, item_words, left_after}
use Rattle.circ_script.specs.Drafts.{Draft, first_draft}
use Rattle.circ_script.specs.Adding.{TakesItem, TakesItems, start, next}
use Rattle.circ_script.specs.Refusing.{TakesNoItem, StopsAt, at_an_item, at_a_cut, at_the_end, FirstScriptCause, at_a_byte, in_the_text}
use Rattle.circ_script.specs.ReadsAsScript.{GivesScript}
use Rattle.circ_script.specs.Steps.{TakingOutcome, GivesEnd, GivesDraft, GivesScriptFrom}
use Rattle.circ_script.proofs.ItemWords.{behind_add}
use Rattle.circ_script.proofs.Places.{none_in, up_to_the_end}

-- an item has a word
no_words : (item : Item) → IsItem [] item → ⊥
no_words (variables names sort) h = h
no_words (goal s cs) h = let e = (behind_add [] s cs h).1 in cc
no_words coinduction h = cc
no_words (reduce term) (inl h) = cc
no_words (reduce term) (inr h) = cc

pub takes_words : (job : Job) (d : Draft) (before after : List Word) (e : Draft) → TakesItem job d before after e → before ≢ []
takes_words job d before after e t n = no_words t.item (subst (λ x. IsItem (item_words x) t.item) n t.is.says)

-- k items lie between the first token and this span, which goes up to the end
pub record Walked (job : Job) (first : Draft) (ts : TokenList) (k : ℕ) (now : Draft) (rest : Span) : Type 0 where
  pub within : IsWithin ts rest
  pub to : rest.to ≡ length (tokens_of ts)
  pub ahead : 2 * k ≤ rest.from
  pub reached : TakesItems job first (tokens_of ts) k now (drop rest.from (tokens_of ts))

module _ (job : Job) (first : Draft) (ts : TokenList) where
  pub walk_begins : (rest : Span) → rest.from ≡ 0 → rest.to ≡ length (tokens_of ts) → Walked job first ts 0 first rest
  walk_begins rest f t = record {
    within = record { ahead = omega (arith, f); within = omega (arith, t) };
    to = t;
    ahead = omega (arith, f);
    reached = subst (λ n. TakesItems job first (tokens_of ts) 0 first (drop n (tokens_of ts))) (sym f) start;
  }

  module _ (k : ℕ) (now : Draft) (rest : Span) (w : Walked job first ts k now rest) where
    module _ (stop : ℕ) (before after : Span) (s : IsStopAfter (tokens_of ts) rest.from stop) (bf : before.from ≡ rest.from) (bt : before.to ≡ stop)
        (af : after.from ≡ stop + 1) (at : after.to ≡ rest.to) where
      before_is : tokens_in ts before ≡ slice_range (tokens_of ts) rest.from stop
      before_is = λ i. slice_range (tokens_of ts) (bf i) (bt i)

      after_is : tokens_in ts after ≡ drop (stop + 1) (tokens_of ts)
      after_is = up_to_the_end ts after (at ∙ w.to) ∙ ap (λ n. drop n (tokens_of ts)) af

      pub walk_goes_on : (e : Draft) (left : Span) → TakesItem job now (tokens_in ts before) (tokens_in ts after) e → IsWithin ts left → left.to ≡ after.to
          → tokens_in ts left ≡ left_after (tokens_in ts after) → stop + 1 ≤ left.from → Walked job first ts (k + 1) e left
      walk_goes_on e left t h lt lw l = record {
        within = h;
        to = lt ∙ at ∙ w.to;
        ahead =
            let some : before.from < before.to = go (cases_lt before.from before.to) in
            let a = w.ahead in
            omega (arith, some, a, l, bf, bt);
        reached =
            let is : drop left.from (tokens_of ts) ≡ left_after (drop (stop + 1) (tokens_of ts)) = sym (up_to_the_end ts left (lt ∙ at ∙ w.to)) ∙ lw
            ∙ ap left_after after_is in
            subst (λ x. TakesItems job first (tokens_of ts) (k + 1) e x) (sym is)
            (next k now e (drop rest.from (tokens_of ts)) (slice_range (tokens_of ts) rest.from stop) (drop (stop + 1) (tokens_of ts)) w.reached s.tokens
            s.no_stop
            (subst (λ x. TakesItem job now x (drop (stop + 1) (tokens_of ts)) e) before_is
            (subst (λ x. TakesItem job now (tokens_in ts before) x e) after_is t)));
      }
        where
          go : (before.from < before.to) ⊎ (before.to ≤ before.from) → before.from < before.to
          go (inl less) = less
          go (inr more) = absurd (takes_words job now (tokens_in ts before) (tokens_in ts after) e t (none_in ts before more))

      -- an item's fault ends it
      pub walk_faults : (number : ℕ) (f : Fault) (u last : Draft) → number ≡ k + 1
          → StepAnswers {U = Unit {0}} (Err f) u (TakingOutcome job now (tokens_in ts before) (tokens_in ts after))
          → GivesDraft (Err (fault_at number f)) job first last (tokens_of ts)
      walk_faults number (Because c) u last e t =
          let r = subst (λ x. TakesNoItem job now x (drop (stop + 1) (tokens_of ts)) c) before_is
          (subst (λ x. TakesNoItem job now (tokens_in ts before) x c) after_is t) in (
            k,
            e,
            at_an_item k now (drop rest.from (tokens_of ts)) (slice_range (tokens_of ts) rest.from stop) (drop (stop + 1) (tokens_of ts)) c w.reached
                s.tokens s.no_stop r,
          )
      walk_faults number Memory u last e t = tt

    nothing_left : rest.to ≤ rest.from → drop rest.from (tokens_of ts) ≡ []
    nothing_left l = sym (up_to_the_end ts rest w.to) ∙ none_in ts rest l

    some_left : rest.from < rest.to → drop rest.from (tokens_of ts) ≢ []
    some_left l e =
        let n : length (tokens_of ts) - rest.from ≡ 0 = sym (length-drop rest.from (tokens_of ts)) ∙ ap length e in
        let t = w.to in
        omega (arith, n, l, t)

    pub walk_ends : GivesEnd None job now rest → GivesDraft (Ok tt) job first now (tokens_of ts)
    walk_ends (l, f) = (k, subst (λ x. TakesItems job first (tokens_of ts) k now x) (nothing_left l) w.reached, f)

    pub walk_breaks : (number : ℕ) (c : Cause) (last : Draft) → number ≡ k + 1 → HasNoStop (drop rest.from (tokens_of ts)) → GivesEnd (Some c) job now rest
        → GivesDraft (Err (at.Statement number c)) job first last (tokens_of ts)
    walk_breaks number c last e h (inl (l, s)) =
        (k, e, subst (λ x. StopsAt job first (tokens_of ts) k x) (sym s) (at_a_cut k now (drop rest.from (tokens_of ts)) w.reached (some_left l) h))
    walk_breaks number c last e h (inr (l, u)) =
        (k, e, at_the_end k now c (subst (λ x. TakesItems job first (tokens_of ts) k now x) (nothing_left l) w.reached) u)

-- a script by its items
pub script_as : (th : Theory) (job : Job) (bytes : List ℕ) (ws : List Word) → AreTokens bytes ws → (r : Result made.Script ReadFault)
    → GivesScriptFrom r job (first_draft th) ws → GivesScript r th job bytes
script_as th job bytes ws are (Ok s) h =
    record { tokens = ws; are_tokens = are; count = h.count; last = h.last; items = h.items; finished = h.finished; is = h.is }
script_as th job bytes ws are (Err (at.Statement n c)) (k, e, b) = subst (λ i. FirstScriptCause th job bytes i c) (sym e) (in_the_text ws k c are b)
script_as th job bytes ws are (Err at.Memory) h = tt

pub bad_bytes : (th : Theory) (job : Job) (bytes : List ℕ) (f : LexFault) → GivesTokens (Err f) bytes
    → GivesScript (Err (fault_at 0 (byte_fault f))) th job bytes
bad_bytes th job bytes (lex.NotAscii n) h = at_a_byte (lex.NotAscii n) h
bad_bytes th job bytes (lex.Control n) h = at_a_byte (lex.Control n) h
bad_bytes th job bytes lex.Memory h = tt
