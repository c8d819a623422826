-- Bytes read as one script, or have one first cause.
use Rattle.std.proofs.Common.{◌≡◌, ℕ, ◌<◌, ◌+◌, List, [], ◌∷◌, ◌++◌, codes, Option, Some, None, Result, Ok, Err, ◌⊎◌, inl, inr, refl, sym, ap}
use Rattle.std.proofs.Common.{◌∙◌, subst, arith}
use Rattle.std.proofs.lemmas.Bool.{cases_order}
use Rattle.circ_theory.specs.Theory.{Theory}
use Rattle.circ_theory.specs.declared.fault.TheoryFault.{TheoryFault}
use Rattle.circ_mixfix.specs.Answers.{long_count, first_long}
use Rattle.circ_statement.specs.Words.{Word}
use Rattle.circ_statement.specs.Said as statement
use Rattle.circ_read.specs.declared.cause.Cause.{Cause}
use Rattle.circ_read.specs.declared.cause.Cause.TheVariants as cause
use Rattle.circ_read.specs.Causes.{AreAlike, same, ambiguous, cause_of, byte_cause}
use Rattle.circ_read.specs.Adding.{equation_lists, goal_terms, ReadsEquation}
use Rattle.circ_read.specs.Refusing.{IsCauseOf}
use Rattle.circ_read.specs.Text.{HasNoStop}
use Rattle.circ_read.proofs.GoalTerms.{same_goal}
use Rattle.circ_read.proofs.Once.{SaidOnce, alike_of, ok_same, ok_err}
use Rattle.circ_read.proofs.Stops.{cut_once, not_cut}
use Rattle.circ_read.proofs.StatementOnce.{statement_once, alone_or_not, not_alone_once}
use Rattle.circ_read.proofs.TextOnce.{CutOnce, bad_once, bad_or_tokens}
use Rattle.circ_script.specs.declared.job.Job.{Job}
use Rattle.circ_script.specs.Script.{Script}
use Rattle.circ_script.specs.Items.{Item, variables, goal, coinduction, reduce, IsItemFor, item_words, left_after}
use Rattle.circ_script.specs.Drafts.{Draft, first_draft, IsFinished, script_of}
use Rattle.circ_script.specs.Adding.{ReadsTerm, goal_fault, AddsItem, TakesItem, TakesItems, start, next}
use Rattle.circ_script.specs.Refusing.{reading_text, RefusesItem, TakesNoItem, left_out, no_shape, is_refused, IsUnfinished, open_goals, no_work}
use Rattle.circ_script.specs.Refusing.{StopsAt, at_an_item, at_a_cut, at_the_end, FirstScriptCause, at_a_byte, in_the_text}
use Rattle.circ_script.specs.ReadsAsScript.{ReadsAsScript}
use Rattle.circ_script.specs.Steps.{ItemOutcome, TakingOutcome}
use Rattle.circ_script.proofs.ItemWords.{item_once}

err_alike : {A B : Type 0} (c d : Cause) → AreAlike {A = A} (Err c) (Err d) → AreAlike {A = B} (Err c) (Err d)
err_alike c d same = same
err_alike c d ambiguous = ambiguous

-- a fault is one cause
no_cause : (o : Option TheoryFault) (c : Cause) → o ≡ None → IsCauseOf o c → ⊥
no_cause None c e h = h
no_cause (Some f) c e h = cc

one_cause : (o : Option TheoryFault) (b c : Cause) → IsCauseOf o b → IsCauseOf o c → AreAlike {A = Draft} (Err b) (Err c)
one_cause None b c h k = absurd h
one_cause (Some f) b c h k = alike_of (Err b) (Err c) (Err (cause_of f)) (ap Err h) (ap Err k)

adds_once : (d : Draft) (i : Item) (e f : Draft) → AddsItem d i e → AddsItem d i f → f ≡ e
adds_once d (variables names sort) e f h k =
    let t = ok_same e.theory f.theory (statement_once d.theory (statement.variables names sort) (Ok e.theory) (Ok f.theory) h.0 k.0) in
    k.1 ∙ ap (λ th. record d { theory = th }) (sym t) ∙ sym h.1
adds_once d (goal s cs) e f h k =
    let g = same_goal k.says h.says (h.alone.only (goal_terms k.says) k.alone.reads) in
    k.is ∙ ap (λ g. record d { goals = d.goals ++ g ∷ [] }) g ∙ sym h.is
adds_once d coinduction e f h k = k.1 ∙ sym h.1
adds_once d (reduce term) e f h k =
    let a = h.alone.only (k.term ∷ []) k.alone.reads in
    let t : k.term ≡ h.term = cc in
    k.is ∙ ap (λ t. record d { terms = d.terms ++ t ∷ [] }) t ∙ sym h.is

adds_or_refuses : (d : Draft) (i : Item) (e : Draft) (c : Cause) → AddsItem d i e → RefusesItem d i c → ⊥
adds_or_refuses d (variables names sort) e c h k = ok_err e.theory c (statement_once d.theory (statement.variables names sort) (Ok e.theory) (Err c) h.0 k)
adds_or_refuses d (goal s cs) e c h (inl k) =
    let lists = equation_lists s.left s.right cs in
    alone_or_not (first_long lists) (ReadsEquation d.theory lists) (reading_text d.theory) (goal_terms h.says) c h.alone k
adds_or_refuses d (goal s cs) e c h (inr k) =
    let g = same_goal k.0 h.says (h.alone.only (goal_terms k.0) k.1.0.reads) in
    no_cause (goal_fault d.theory h.says.conds) c h.no_fault (subst (λ g. IsCauseOf (goal_fault d.theory g.conds) c) g k.1.1)
adds_or_refuses d coinduction e c h k = h.0 k.0
adds_or_refuses d (reduce term) e c h k = alone_or_not (long_count term) (ReadsTerm d.theory term) (reading_text d.theory) (h.term ∷ []) c h.alone k

refuses_once : (d : Draft) (i : Item) (b c : Cause) → RefusesItem d i b → RefusesItem d i c → AreAlike {A = Draft} (Err b) (Err c)
refuses_once d (variables names sort) b c h k = err_alike b c (statement_once d.theory (statement.variables names sort) (Err b) (Err c) h k)
refuses_once d (goal s cs) b c (inl h) (inl k) =
    let lists = equation_lists s.left s.right cs in not_alone_once (first_long lists) (ReadsEquation d.theory lists) (reading_text d.theory) b c h k
refuses_once d (goal s cs) b c (inl h) (inr k) =
    let lists = equation_lists s.left s.right cs in
    absurd (alone_or_not (first_long lists) (ReadsEquation d.theory lists) (reading_text d.theory) (goal_terms k.0) b k.1.0 h)
refuses_once d (goal s cs) b c (inr h) (inl k) =
    let lists = equation_lists s.left s.right cs in
    absurd (alone_or_not (first_long lists) (ReadsEquation d.theory lists) (reading_text d.theory) (goal_terms h.0) c h.1.0 k)
refuses_once d (goal s cs) b c (inr h) (inr k) =
    let g = same_goal k.0 h.0 (h.1.0.only (goal_terms k.0) k.1.0.reads) in
    one_cause (goal_fault d.theory h.0.conds) b c h.1.1 (subst (λ g. IsCauseOf (goal_fault d.theory g.conds) c) g k.1.1)
refuses_once d coinduction b c h k = alike_of (Err b) (Err c) (Err cause.NoGoal) (ap Err h.1) (ap Err k.1)
refuses_once d (reduce term) b c h k = not_alone_once (long_count term) (ReadsTerm d.theory term) (reading_text d.theory) b c h k

item_outcome_once : (d : Draft) (i : Item) (r q : Result Draft Cause) → ItemOutcome d i r → ItemOutcome d i q → AreAlike r q
item_outcome_once d i (Ok e) (Ok f) h k = alike_of (Ok e) (Ok f) (Ok e) refl (ap Ok (adds_once d i e f h k))
item_outcome_once d i (Ok e) (Err c) h k = absurd (adds_or_refuses d i e c h k)
item_outcome_once d i (Err c) (Ok e) h k = absurd (adds_or_refuses d i e c k h)
item_outcome_once d i (Err b) (Err c) h k = refuses_once d i b c h k

module _ (law : SaidOnce) (job : Job) where
  module _ (d : Draft) (before after : List Word) where
    same_item : (i j : Item) → IsItemFor job before after i → IsItemFor job before after j → i ≡ j
    same_item i j h k = item_once law (item_words before) i j h.says k.says

    refused_or_taken : (e : Draft) (c : Cause) → TakesItem job d before after e → TakesNoItem job d before after c → ⊥
    refused_or_taken e c t (left_out w h) = t.is.kept w h
    refused_or_taken e c t (no_shape kept none) = none t.item t.is
    refused_or_taken e c t (is_refused j b h r) =
        adds_or_refuses d j e b (subst (λ x. AddsItem d x e) (same_item t.item j t.is h) t.adds) r

    refused_once : (b c : Cause) → TakesNoItem job d before after b → TakesNoItem job d before after c → AreAlike {A = Draft} (Err b) (Err c)
    refused_once b c (left_out v h) (left_out w k) = subst (λ x. AreAlike {A = Draft} (Err (cause.LeftOut v)) (Err (cause.LeftOut x)))
        (law.out (item_words before) v w h k) same
    refused_once b c (left_out v h) (no_shape kept none) = absurd (kept v h)
    refused_once b c (left_out v h) (is_refused j a k r) = absurd (k.kept v h)
    refused_once b c (no_shape kept none) (left_out v h) = absurd (kept v h)
    refused_once b c (no_shape kept none) (no_shape kept' none') = same
    refused_once b c (no_shape kept none) (is_refused j a k r) = absurd (none j k)
    refused_once b c (is_refused j a k r) (left_out v h) = absurd (k.kept v h)
    refused_once b c (is_refused j a k r) (no_shape kept none) = absurd (none j k)
    refused_once b c (is_refused i a h q) (is_refused j a' k r) = refuses_once d i b c q (subst (λ x. RefusesItem d x c) (same_item j i k h) r)

    pub tokens_once : (r q : Result Draft Cause) → TakingOutcome job d before after r → TakingOutcome job d before after q → AreAlike r q
    tokens_once (Ok e) (Ok f) h k = item_outcome_once d h.item (Ok e) (Ok f) h.adds (subst (λ x. AddsItem d x f) (same_item k.item h.item k.is h.is) k.adds)
    tokens_once (Ok e) (Err c) h k = absurd (refused_or_taken e c h k)
    tokens_once (Err c) (Ok e) h k = absurd (refused_or_taken e c k h)
    tokens_once (Err b) (Err c) h k = refused_once b c h k

  module _ (first : Draft) (tokens : List Word) where
    -- the tokens before and after a stop, as they stand at one place
    module _ (d d' : Draft) (here here' before before' after after' : List Word) (e : d ≡ d') (f : here ≡ here') (h : here ≡ before ++ codes "." ∷ after)
        (h' : here' ≡ before' ++ codes "." ∷ after')
        (n : HasNoStop before) (n' : HasNoStop before') where
      abbrev cut : (before ≡ before') × (after ≡ after')
      cut = cut_once before before' after after' (sym h ∙ f ∙ h') n n'

      same_outcome : (r q : Result Draft Cause) → TakingOutcome job d before after r → TakingOutcome job d' before' after' q → AreAlike r q
      same_outcome r q t t' =
          tokens_once d before after r q t
          (subst (λ x. TakingOutcome job x before after q) (sym e)
          (subst (λ x. TakingOutcome job d' x after q) (sym cut.0) (subst (λ x. TakingOutcome job d' before' x q) (sym cut.1) t')))

    pub reaches_once : (k j : ℕ) (a b : Draft) (left rest : List Word) → k ≡ j → TakesItems job first tokens k a left → TakesItems job first tokens j b rest
        → (a ≡ b) × (left ≡ rest)
    reaches_once k j a b left rest e start start = (refl, refl)
    reaches_once k j a b left rest e start (next i c d here before after r h n t) = absurd (omega arith)
    reaches_once k j a b left rest e (next i c d here before after r h n t) start = absurd (omega arith)
    reaches_once k j a b left rest e (next i c d here before after r h n t) (next i' c' d' here' before' after' r' h' n' t') =
        let at = reaches_once i i' c c' here here' (omega arith) r r' in
        let cut = cut_once before before' after after' (sym h ∙ at.1 ∙ h') n n' in
        (ok_same a b (same_outcome c c' here here' before before' after after' at.0 at.1 h h' n n' (Ok a) (Ok b) t t'), ap left_after cut.1)

    -- item j is taken
    record Step (j : ℕ) : Type 0 where
      now : Draft
      here : List Word
      before : List Word
      after : List Word
      then : Draft
      reached : TakesItems job first tokens j now here
      cut : here ≡ before ++ codes "." ∷ after
      whole : HasNoStop before
      takes : TakesItem job now before after then

    earlier : (k j : ℕ) (a : Draft) (left : List Word) → j < k → TakesItems job first tokens k a left → Step j
    earlier k j a left l start = absurd (omega arith)
    earlier k j a left l (next i c d here before after r h n t) = go (λ less. earlier i j c here less r) (cases_order j i)
      where
        go : (j < i → Step j) → (j ≡ i) ⊎ ((j < i) ⊎ (i < j)) → Step j
        go sooner (inl e) = subst Step (sym e) (record {
          now = c;
          here = here;
          before = before;
          after = after;
          then = a;
          reached = r;
          cut = h;
          whole = n;
          takes = t;
        })
        go sooner (inr (inl less)) = sooner less
        go sooner (inr (inr more)) = absurd (omega arith)

    -- nothing is read after tokens without a stop
    none_later : (k j : ℕ) (a b : Draft) (left rest : List Word) → HasNoStop left → TakesItems job first tokens k a left
        → TakesItems job first tokens j b rest → k < j → ⊥
    none_later k j a b left rest h r q l =
        let step = earlier j k b rest l q in
        let at = reaches_once k k a step.now left step.here refl r step.reached in
        not_cut left step.before step.after (at.1 ∙ step.cut) h

    break_before : (k j : ℕ) (b : Draft) (rest : List Word) (c : Cause) → StopsAt job first tokens k c → TakesItems job first tokens j b rest → k < j → ⊥
    break_before k j b rest c (at_a_cut i a left r some h) q l = none_later k j a b left rest h r q l
    break_before k j b rest c (at_the_end i a c' r u) q l = none_later k j a b [] rest refl r q l
    break_before k j b rest c (at_an_item i a here before after c' r h n t) q l =
        let step = earlier j k b rest l q in
        let at = reaches_once k k a step.now here step.here refl r step.reached in
        ok_err step.then c (same_outcome step.now a step.here here step.before before step.after after (sym at.0) (sym at.1) step.cut h step.whole n
        (Ok step.then) (Err c) step.takes t)

    record Reached (k : ℕ) : Type 0 where
      now : Draft
      here : List Word
      reached : TakesItems job first tokens k now here

    reached_by : (k : ℕ) (c : Cause) → StopsAt job first tokens k c → Reached k
    reached_by k c (at_an_item i a here before after c' r h n t) = record { now = a; here = here; reached = r }
    reached_by k c (at_a_cut i a left r some h) = record { now = a; here = left; reached = r }
    reached_by k c (at_the_end i a c' r u) = record { now = a; here = []; reached = r }

    unfinished_once : (a : Draft) (b c : Cause) → IsUnfinished job a b → IsUnfinished job a c → AreAlike {A = Draft} (Err b) (Err c)
    unfinished_once a b c (open_goals h) (open_goals k) = same
    unfinished_once a b c (open_goals h) (no_work k n) = absurd (h k)
    unfinished_once a b c (no_work k n) (open_goals h) = absurd (h k)
    unfinished_once a b c (no_work k n) (no_work l m) = same

    unfinished_not : (a : Draft) (c : Cause) → IsFinished job a → IsUnfinished job a c → ⊥
    unfinished_not a c f (open_goals h) = h f.closed
    unfinished_not a c f (no_work h n) = n f.asks

    breaks_here : (k : ℕ) (c d : Cause) → StopsAt job first tokens k c → StopsAt job first tokens k d → AreAlike {A = Draft} (Err c) (Err d)
    breaks_here k c d (at_an_item i a here before after x r h n t) (at_an_item i' a' here' before' after' x' r' h' n' t') =
        let at = reaches_once k k a a' here here' refl r r' in
        same_outcome a a' here here' before before' after after' at.0 at.1 h h' n n' (Err c) (Err d) t t'
    breaks_here k c d (at_an_item i a here before after x r h n t) (at_a_cut i' a' left r' some l) =
        absurd (not_cut left before after ((reaches_once k k a' a left here refl r' r).1 ∙ h) l)
    breaks_here k c d (at_an_item i a here before after x r h n t) (at_the_end i' a' x' r' u) =
        absurd (not_cut [] before after ((reaches_once k k a' a [] here refl r' r).1 ∙ h) refl)
    breaks_here k c d (at_a_cut i' a' left r' some l) (at_an_item i a here before after x r h n t) =
        absurd (not_cut left before after ((reaches_once k k a' a left here refl r' r).1 ∙ h) l)
    breaks_here k c d (at_a_cut i a left r some l) (at_a_cut i' a' left' r' some' l') = same
    breaks_here k c d (at_a_cut i a left r some l) (at_the_end i' a' x' r' u) = absurd (some (reaches_once k k a a' left [] refl r r').1)
    breaks_here k c d (at_the_end i' a' x' r' u) (at_an_item i a here before after x r h n t) =
        absurd (not_cut [] before after ((reaches_once k k a' a [] here refl r' r).1 ∙ h) refl)
    breaks_here k c d (at_the_end i' a' x' r' u) (at_a_cut i a left r some l) = absurd (some (reaches_once k k a a' left [] refl r r').1)
    breaks_here k c d (at_the_end i a x r u) (at_the_end i' a' x' r' u') =
        unfinished_once a c d u (subst (λ y. IsUnfinished job y d) (sym (reaches_once k k a a' [] [] refl r r').0) u')

    pub breaks_once : (k j : ℕ) (c d : Cause) → StopsAt job first tokens k c → StopsAt job first tokens j d → (j ≡ k) × AreAlike {A = Draft} (Err c) (Err d)
    breaks_once k j c d b e = go (cases_order j k)
      where
        go : (j ≡ k) ⊎ ((j < k) ⊎ (k < j)) → (j ≡ k) × AreAlike {A = Draft} (Err c) (Err d)
        go (inl s) = (s, breaks_here k c d b (subst (λ i. StopsAt job first tokens i d) s e))
        go (inr (inl less)) = let at = reached_by k c b in absurd (break_before j k at.now at.here d e at.reached less)
        go (inr (inr more)) = let at = reached_by j d e in absurd (break_before k j at.now at.here c b at.reached more)

    pub ends_once : (k j : ℕ) (a b : Draft) → TakesItems job first tokens k a [] → TakesItems job first tokens j b [] → a ≡ b
    ends_once k j a b r q = go (cases_order j k)
      where
        go : (j ≡ k) ⊎ ((j < k) ⊎ (k < j)) → a ≡ b
        go (inl s) = (reaches_once k j a b [] [] (sym s) r q).0
        go (inr (inl less)) = absurd (none_later j k b a [] [] refl q r less)
        go (inr (inr more)) = absurd (none_later k j a b [] [] refl r q more)

    no_break_here : (k : ℕ) (a : Draft) (c : Cause) → TakesItems job first tokens k a [] → IsFinished job a → StopsAt job first tokens k c → ⊥
    no_break_here k a c r f (at_an_item i a' here before after x q h n t) = not_cut [] before after ((reaches_once k k a a' [] here refl r q).1 ∙ h) refl
    no_break_here k a c r f (at_a_cut i a' left q some l) = some (sym (reaches_once k k a a' [] left refl r q).1)
    no_break_here k a c r f (at_the_end i a' x q u) = unfinished_not a c f (subst (λ y. IsUnfinished job y c) (sym (reaches_once k k a a' [] [] refl r q).0) u)

    pub ends_or_breaks : (k j : ℕ) (a : Draft) (c : Cause) → TakesItems job first tokens k a [] → IsFinished job a → StopsAt job first tokens j c → ⊥
    ends_or_breaks k j a c r f b = go (cases_order j k)
      where
        go : (j ≡ k) ⊎ ((j < k) ⊎ (k < j)) → ⊥
        go (inl s) = no_break_here k a c r f (subst (λ i. StopsAt job first tokens i c) s b)
        go (inr (inl less)) = break_before j k a [] c b r less
        go (inr (inr more)) = let at = reached_by j c b in none_later k j a at.now [] at.here refl r at.reached more

module _ (cut : CutOnce) (law : SaidOnce) (th : Theory) (job : Job) (bytes : List ℕ) where
  pub script_once : (s t : Script) → ReadsAsScript th job bytes s → ReadsAsScript th job bytes t → t ≡ s
  script_once s t h k =
      let e = cut.tokens bytes h.tokens k.tokens h.are_tokens k.are_tokens in
      let same_last = ends_once law job (first_draft th) h.tokens h.count k.count h.last k.last h.items
      (subst (λ x. TakesItems job (first_draft th) x k.count k.last []) e k.items) in
      k.is ∙ ap script_of (sym same_last) ∙ sym h.is

  pub script_or_cause : (s : Script) (n : ℕ) (c : Cause) → ReadsAsScript th job bytes s → FirstScriptCause th job bytes n c → ⊥
  script_or_cause s n c h (at_a_byte f k) = bad_or_tokens cut bytes f h.tokens k h.are_tokens
  script_or_cause s n c h (in_the_text ws k c' t b) =
      let e = cut.tokens bytes h.tokens ws h.are_tokens t in
      ends_or_breaks law job (first_draft th) h.tokens h.count k h.last c h.items h.finished (subst (λ x. StopsAt job (first_draft th) x k c) e b)

  pub cause_once : (n m : ℕ) (c d : Cause) → FirstScriptCause th job bytes n c → FirstScriptCause th job bytes m d
      → (m ≡ n) × AreAlike {A = Script} (Err c) (Err d)
  cause_once n m c d (at_a_byte f h) (at_a_byte g k) = (
    refl,
    subst (λ x. AreAlike {A = Script} (Err c) (Err x))
        (ap byte_cause (sym (bad_once cut bytes f g h k))) same,
  )
  cause_once n m c d (at_a_byte f h) (in_the_text ws k c' t b) = absurd (bad_or_tokens cut bytes f ws h t)
  cause_once n m c d (in_the_text ws k c' t b) (at_a_byte f h) = absurd (bad_or_tokens cut bytes f ws h t)
  cause_once n m c d (in_the_text ws k c' t b) (in_the_text vs j d' u e) =
      let s = cut.tokens bytes ws vs t u in
      let r = breaks_once law job (first_draft th) ws k j c d b (subst (λ x. StopsAt job (first_draft th) x j d) s e) in
      (ap (λ i. i + 1) r.0, err_alike c d r.1)
