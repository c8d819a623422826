-- Bytes read as a script or have a first cause, by double negation.
use Rattle.std.proofs.Common.{◌≡◌, ◌≢◌, ℕ, zero, suc, ◌+◌, ◌<◌, ◌≤◌, List, [], ◌∷◌, length, Bool, true, false, codes, if◌then◌else◌, Option, Some}
use Rattle.std.proofs.Common.{None, ◌⊎◌, inl, inr, refl, sym, subst, arith}
use Rattle.circ_lexer.specs.declared.tokens.Span.{Span}
use Rattle.circ_lexer.specs.declared.fault.LexFault.{LexFault}
use Rattle.circ_lexer.specs.Cuts.{Cuts}
use Rattle.circ_lexer.specs.TokenList.{AreTokens, tokens_of}
use Rattle.circ_term.specs.Tree.{Tree}
use Rattle.circ_theory.specs.Theory.{Theory}
use Rattle.circ_theory.specs.declared.fault.TheoryFault.{TheoryFault}
use Rattle.circ_theory.specs.Goal.{Goal}
use Rattle.circ_mixfix.specs.Answers.{long_count, first_long}
use Rattle.circ_statement.specs.Words.{Word, is_word}
use Rattle.circ_statement.specs.Said as statement
use Rattle.circ_statement.specs.Said.{SaidSides}
use Rattle.circ_statement.specs.Statement.{IsLeftOut}
use Rattle.circ_read.specs.declared.cause.Cause.{Cause}
use Rattle.circ_read.specs.declared.cause.Cause.TheVariants as cause
use Rattle.circ_read.specs.Causes.{cause_of, byte_cause}
use Rattle.circ_read.specs.Adding.{ReadsAlone, equation_lists, goal_terms, ReadsEquation}
use Rattle.circ_read.specs.Refusing.{IsCauseOf}
use Rattle.circ_read.specs.Text.{HasNoStop}
use Rattle.circ_read.proofs.GoalTerms.{goal_read}
use Rattle.circ_read.proofs.Total.{Either, Cut, first_stop, statement_total, terms_total}
use Rattle.circ_script.specs.declared.job.Job.{Job}
use Rattle.circ_script.specs.Items.{Item, variables, goal, coinduction, reduce, item_words, set_aside, left_after}
use Rattle.circ_script.specs.Drafts.{Draft, first_draft, IsFinished, script_of}
use Rattle.circ_script.specs.Adding.{ReadsTerm, goal_fault, AddsItem, TakesItem, TakesItems, start, next}
use Rattle.circ_script.specs.Refusing.{reading_text, RefusesItem, TakesNoItem, left_out, no_shape, is_refused, open_goals, no_work, StopsAt}
use Rattle.circ_script.specs.Refusing.{at_an_item, at_a_cut, at_the_end, at_a_byte, in_the_text}
use Rattle.circ_script.specs.ReadsAsScript.{ScriptOrCause}

none_or_some : {A : Type 0} (xs : List A) → (xs ≡ []) ⊎ (xs ≢ [])
none_or_some [] = inl refl
none_or_some (x ∷ xs) = inr (λ e. cc)

module _ (d : Draft) (s : SaidSides) (cs : List SaidSides) where
  abbrev lists : List (List Word)
  lists = equation_lists s.left s.right cs

  abbrev Alone : List Tree → Type 0
  Alone ts = ReadsAlone (first_long lists) (ReadsEquation d.theory lists) ts

  goal_total : Either (AddsItem d (goal s cs)) (RefusesItem d (goal s cs))
  goal_total accepted refused = terms_total (first_long lists) (ReadsEquation d.theory lists) (reading_text d.theory) go (λ c h. refused c (inl h))
    where
      faulted : (g : Goal) → Alone (goal_terms g) → (o : Option TheoryFault) → goal_fault d.theory g.conds ≡ o → ⊥
      faulted g h None e = accepted _ (record { says = g; alone = h; no_fault = e; is = refl })
      faulted g h (Some f) e = refused (cause_of f) (inr (g, (h, subst (λ o. IsCauseOf o (cause_of f)) (sym e) refl)))

      go : (ts : List Tree) → Alone ts → ⊥
      go ts h = let g = goal_read d.theory s.left s.right cs ts h.reads in faulted g.0 (subst Alone g.1 h) (goal_fault d.theory g.0.conds) refl

module _ (d : Draft) where
  term_total : (term : List Word) → Either (AddsItem d (reduce term)) (RefusesItem d (reduce term))
  term_total term accepted refused = terms_total (long_count term) (ReadsTerm d.theory term) (reading_text d.theory) go refused
    where
      go : (ts : List Tree) → ReadsAlone (long_count term) (ReadsTerm d.theory term) ts → ⊥
      go [] h = let z = h.reads.1 in cc
      go (t ∷ []) h = accepted _ (record { term = t; alone = h; is = refl })
      go (t ∷ u ∷ ts) h = let z = h.reads.1 in cc

  item_total : (i : Item) → Either (AddsItem d i) (RefusesItem d i)
  item_total (variables names sort) accepted refused =
      statement_total d.theory (statement.variables names sort) (λ u h. accepted (record d { theory = u }) (h, refl)) refused
  item_total (goal s cs) accepted refused = goal_total d s cs accepted refused
  item_total coinduction accepted refused = go (none_or_some d.goals)
    where
      go : (d.goals ≡ []) ⊎ (d.goals ≢ []) → ⊥
      go (inl e) = refused cause.NoGoal (e, refl)
      go (inr n) = accepted _ (n, refl)
  item_total (reduce term) accepted refused = term_total term accepted refused

module _ (job : Job) where
  tokens_total : (d : Draft) (before after : List Word) → Either (TakesItem job d before after) (TakesNoItem job d before after)
  tokens_total d before after accepted refused =
      let kept : (w : Word) → IsLeftOut (item_words before) w → ⊥ = λ w out. refused (cause.LeftOut w) (left_out w out) in
      refused cause.Shape (no_shape kept (λ i is.
      item_total d i (λ e h. accepted e (record { item = i; is = is; adds = h })) (λ c h. refused c (is_refused i c is h))))

  aside_shorter : (w : Word) (ws : List Word) → length (set_aside w ws) ≤ length ws
  aside_shorter w [] = omega arith
  aside_shorter w (v ∷ vs) = go (is_word v w)
    where
      go : (b : Bool) → length (if b then vs else v ∷ vs) ≤ length (v ∷ vs)
      go true = omega arith
      go false = omega arith

  module _ (first : Draft) (tokens : List Word) (accepted : (last : Draft) (k : ℕ) → TakesItems job first tokens k last [] → IsFinished job last → ⊥)
      (refused : (k : ℕ) (c : Cause) → StopsAt job first tokens k c → ⊥) where
    at_end : (k : ℕ) (now : Draft) → TakesItems job first tokens k now [] → ⊥
    at_end k now r = go (none_or_some now.goals)
      where
        go : (now.goals ≡ []) ⊎ (now.goals ≢ []) → ⊥
        go (inr n) = refused k cause.Unclosed (at_the_end k now cause.Unclosed r (open_goals n))
        go (inl e) = refused k cause.NoGoal (at_the_end k now cause.NoGoal r (no_work e (λ a. accepted now k r (record { closed = e; asks = a }))))

    step : (k : ℕ) (now : Draft) (left : List Word)
        → ((j : ℕ) (e : Draft) (rest : List Word) → length rest < length left → TakesItems job first tokens j e rest → ⊥)
        → TakesItems job first tokens k now left → ⊥
    step k now left later r = go (first_stop left)
      where
        ended : (left ≡ []) ⊎ (left ≢ []) → HasNoStop left → ⊥
        ended (inl e) h = at_end k now (subst (λ x. TakesItems job first tokens k now x) e r)
        ended (inr n) h = refused k cause.Shape (at_a_cut k now left r n h)

        go : HasNoStop left ⊎ Cut left → ⊥
        go (inl h) = ended (none_or_some left) h
        go (inr c) = tokens_total now c.ws c.rest
            (λ e t. later (k + 1) e (left_after c.rest) (let l = aside_shorter (codes ")") c.rest in let s = c.shorter in omega arith)
            (next k now e left c.ws c.rest r c.cut c.whole t))
            (λ d t. refused k d (at_an_item k now left c.ws c.rest d r c.cut c.whole t))

    items_total : (m k : ℕ) (now : Draft) (left : List Word) → length left ≤ m → TakesItems job first tokens k now left → ⊥
    items_total zero k now left l r = step k now left (λ j e rest s q. omega (arith, l, s)) r
    items_total (suc m) k now left l r = step k now left (λ j e rest s q. items_total m j e rest (omega (arith, l, s)) q) r

pub script_total : ((bytes : List ℕ) → (ss : List Span) × ((o : Option LexFault) × Cuts 0 bytes ss o)) → (th : Theory) (job : Job) (bytes : List ℕ)
    → ScriptOrCause th job bytes
script_total some th job bytes accepted refused = go (some bytes).0 (some bytes).1.0 (some bytes).1.1
  where
    go : (ss : List Span) (o : Option LexFault) → Cuts 0 bytes ss o → ⊥
    go ss (Some f) c = refused 0 (byte_cause f) (at_a_byte f (ss, c))
    go ss None c =
        let ws = tokens_of (record { source = bytes; spans = ss }) in
        let are : AreTokens bytes ws = (ss, (c, refl)) in
        items_total job (first_draft th) ws
        (λ last k r f. accepted (script_of last) (record { tokens = ws; are_tokens = are; count = k; last = last; items = r; finished = f; is = refl }))
        (λ k d b. refused (k + 1) d (in_the_text ws k d are b)) (length ws) 0 (first_draft th) ws (omega arith) start
