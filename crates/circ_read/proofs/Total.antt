-- Bytes read as a theory or have a first cause, by double negation.
use Rattle.std.proofs.Common.{◌≡◌, ℕ, zero, suc, ◌+◌, ◌<◌, ◌≤◌, List, [], ◌∷◌, ◌++◌, length, Bool, true, false, codes, Option, Some, None, Ordering, Less, Equal, Greater, ◌⊎◌, inl, inr, refl, ap, subst, arith}
use Rattle.std.proofs.lemmas.Slice.Eq.{bytes_eq-Decides}
use Rattle.circ_lexer.specs.declared.tokens.Span.{Span}
use Rattle.circ_lexer.specs.declared.fault.LexFault.{LexFault}
use Rattle.circ_lexer.specs.Cuts.{Cuts}
use Rattle.circ_lexer.specs.TokenList.{AreTokens, tokens_of}
use Rattle.circ_term.specs.Tree.{Tree, trees_of}
use Rattle.circ_term.specs.Order.{trees_cmp}
use Rattle.circ_term.proofs.Within.{trees_of_same}
use Rattle.circ_theory.specs.declared.fault.TheoryFault.{TheoryFault}
use Rattle.circ_theory.specs.Theory.{Theory}
use Rattle.circ_theory.specs.Adding.{sort_number, sort_fault, equation_fault, with_sort, with_equation}
use Rattle.circ_theory.specs.Observing.{derivative_fault, with_derivative, cases_fault, with_cases}
use Rattle.circ_mixfix.specs.Answers.{long_count, first_long}
use Rattle.circ_mixfix.proofs.Order.{trees_equal, trees_less}
use Rattle.circ_statement.specs.Said.{Said, inclusion, sorts, operators, variables, equation, derivative, cases}
use Rattle.circ_statement.specs.Statement.{IsLeftOut}
use Rattle.circ_read.specs.declared.cause.Cause.{Cause}
use Rattle.circ_read.specs.declared.cause.Cause.TheVariants as cause
use Rattle.circ_read.specs.Causes.{cause_of, byte_cause}
use Rattle.circ_read.specs.Text.{is_stop, HasNoStop, ending, AddsTokens, Reaches, start, next, ReadsTo}
use Rattle.circ_read.specs.Failing.{left_out, no_shape, RefusesTokens, says_nothing, is_refused, Breaks, at_a_statement, at_the_end, FailsAt, at_a_byte, at_the_head, in_the_body}
use Rattle.circ_read.specs.Adding.{AddsStatement, AddsAll, ReadsAlone, first_fault, with_all, sort_numbers, constant_numbers, variable_fault, with_variable, operator_fault, with_operator, equation_lists, ReadsEquation, ReadsHole}
use Rattle.circ_read.proofs.GoalTerms.{goal_read}
use Rattle.circ_read.specs.Refusing.{RefusesStatement, IsCauseOf, LacksOr, ReadsNotAlone, too_many_tokens, no_reading, two_readings, terms_text}
use Rattle.circ_read.specs.Includes.{Scope, scope, is_included, text_named, with_variables, again, anew, AddsIn, AddsBy, included_name}
use Rattle.circ_read.specs.RefusesIn.{unknown, broken, RefusesIn, RefusesBy}
use Rattle.circ_read.specs.ReadsAs.{begun, ReadOrRefused}

-- some value or some cause, by double negation
abbrev pub Either : {A : Type 0} → (A → Type 0) → (Cause → Type 0) → Type 0
Either {A} Yes No = ((a : A) → Yes a → ⊥) → ((c : Cause) → No c → ⊥) → ⊥

-- where the first stop cuts a list
pub record Cut (left : List (List ℕ)) : Type 0 where
  pub ws : List (List ℕ)
  pub rest : List (List ℕ)
  pub cut : left ≡ ws ++ codes "." ∷ rest
  pub whole : HasNoStop ws
  pub shorter : length rest < length left

pub first_stop : (left : List (List ℕ)) → HasNoStop left ⊎ Cut left
first_stop [] = inl refl
first_stop (w ∷ ws) = go (is_stop w) refl (first_stop ws)
  where
    go : (b : Bool) → is_stop w ≡ b → HasNoStop ws ⊎ Cut ws → HasNoStop (w ∷ ws) ⊎ Cut (w ∷ ws)
    go true e r = inr (record { ws = []; rest = ws; cut = ap (λ v. v ∷ ws) ((bytes_eq-Decides w (codes ".")).0 e); whole = refl; shorter = omega arith })
    go false e (inl h) = inl (rw e h)
    go false e (inr c) = let s = c.shorter in inr (record { ws = w ∷ c.ws; rest = c.rest; cut = ap (λ l. w ∷ l) c.cut; whole = rw e c.whole; shorter = omega arith })

module _ {A : Type 0} (Adds : A → Said → A → Type 0) (Refuses : A → Said → Cause → Type 0) (total : (a : A) (s : Said) → Either (Adds a s) (Refuses a s)) where
  tokens_total : (a : A) (ws : List (List ℕ)) → Either (AddsTokens Adds a ws) (RefusesTokens Refuses a ws)
  tokens_total a ws accepted refused =
      let kept : (w : List ℕ) → IsLeftOut ws w → ⊥ = λ w out. refused (cause.LeftOut w) (says_nothing (left_out w out)) in
      refused cause.Shape (says_nothing (no_shape kept (λ s is.
      total a s (λ b h. accepted b (record { said = s; kept = kept; says = is; adds = h })) (λ c h. refused c (is_refused s kept is h)))))

  module _ (first : A) (body : List (List ℕ)) (opened : Bool) (accepted : (last : A) (k : ℕ) → Reaches Adds first body k last (ending opened) → ⊥)
      (refused : (k : ℕ) (c : Cause) → Breaks Adds Refuses first body opened k c → ⊥) where
    step : (k : ℕ) (now : A) (left : List (List ℕ)) → ((j : ℕ) (b : A) (rest : List (List ℕ)) → length rest < length left → Reaches Adds first body j b rest → ⊥)
        → Reaches Adds first body k now left → ⊥
    step k now left later r = go (first_stop left)
      where
        go : HasNoStop left ⊎ Cut left → ⊥
        go (inl h) = refused k cause.Shape (at_the_end k now left r h (λ e. accepted now k (subst (λ x. Reaches Adds first body k now x) e r)))
        go (inr c) = tokens_total now c.ws (λ b t. later (k + 1) b c.rest c.shorter (next k now b left c.ws c.rest r c.cut c.whole t))
            (λ d t. refused k d (at_a_statement k now left c.ws c.rest d r c.cut c.whole t))

    body_total : (m k : ℕ) (now : A) (left : List (List ℕ)) → length left ≤ m → Reaches Adds first body k now left → ⊥
    body_total zero k now left l r = step k now left (λ j b rest s q. omega (arith, l, s)) r
    body_total (suc m) k now left l r = step k now left (λ j b rest s q. body_total m j b rest (omega (arith, l, s)) q) r

  module _ (some : (bytes : List ℕ) → (ss : List Span) × ((o : Option LexFault) × Cuts 0 bytes ss o)) (begin : List ℕ → A) (bytes : List ℕ) where
    text_total : ((last : A) → ReadsTo Adds begin bytes last → ⊥) → ((n : ℕ) (c : Cause) → FailsAt Adds Refuses begin bytes n c → ⊥) → ⊥
    text_total accepted refused = go (some bytes).0 (some bytes).1.0 (some bytes).1.1
      where
        go : (ss : List Span) (o : Option LexFault) → Cuts 0 bytes ss o → ⊥
        go ss (Some f) c = refused 0 (byte_cause f) (at_a_byte f (ss, c))
        go ss None c =
            let ws = tokens_of (record { source = bytes; spans = ss }) in
            let are : AreTokens bytes ws = (ss, (c, refl)) in
            refused 1 cause.Shape (at_the_head ws are (λ opened name body h.
            body_total (begin name) body opened
            (λ last k r. accepted last (record { tokens = ws; are_tokens = are; opened = opened; name = name; body = body; head = h; count = k; statements = r }))
            (λ k d b. refused (k + 2) d (in_the_body ws opened name body k d are h b)) (length body) 0 (begin name) body (omega arith) start))

fault_total : (o : Option TheoryFault) → (o ≡ None → ⊥) → ((c : Cause) → IsCauseOf o c → ⊥) → ⊥
fault_total None accepted refused = accepted refl
fault_total (Some f) accepted refused = refused (cause_of f) refl

look_up : {A : Type 0} (o : Option A) (missing : Cause) (Has : A → Cause → Type 0) → ((a : A) → o ≡ Some a → ((c : Cause) → Has a c → ⊥) → ⊥) → ((c : Cause) → LacksOr o missing Has c → ⊥) → ⊥
look_up None missing Has found refused = refused missing refl
look_up (Some a) missing Has found refused = found a refl refused

module _ (l : Option ℕ) (R : List Tree → Type 0) (shown : List Tree → List ℕ) where
  no_other : l ≡ None → ((c : Cause) → ReadsNotAlone l R shown c → ⊥) → (ts us : List Tree) → R ts → R us → us ≡ ts
  no_other e refused ts us h k = go (trees_cmp (trees_of us) (trees_of ts)) refl
    where
      go : (o : Ordering) → trees_cmp (trees_of us) (trees_of ts) ≡ o → us ≡ ts
      go Less f = absurd (refused (cause.Ambiguous (shown us) (shown ts)) (two_readings us ts e k h f))
      go Equal f = trees_of_same us ts (trees_equal (trees_of us) (trees_of ts) f)
      go Greater f = absurd (refused (cause.Ambiguous (shown ts) (shown us)) (two_readings ts us e h k (trees_less (trees_of us) (trees_of ts) f)))

  pub terms_total : Either (ReadsAlone l R) (ReadsNotAlone l R shown)
  terms_total accepted refused = go l refl
    where
      go : (o : Option ℕ) → l ≡ o → ⊥
      go (Some n) e = refused (cause.TooLong n) (too_many_tokens n e)
      go None e = refused cause.NoParse (no_reading e (λ ts h. accepted ts (record { short = e; reads = h; only = λ us k. no_other e refused ts us h k })))

module _ (th : Theory) where
  all_total : {A : Type 0} (fault : Theory → A → Option TheoryFault) (with_one : Theory → A → Theory) (parts : List A)
      → Either (AddsAll fault with_one th parts) (IsCauseOf (first_fault fault with_one th parts))
  all_total fault with_one parts accepted refused =
      fault_total (first_fault fault with_one th parts) (λ e. accepted (with_all with_one th parts) (record { no_fault = e; is = refl })) refused

  pub statement_total : (s : Said) → Either (AddsStatement th s) (RefusesStatement th s)
  statement_total (inclusion name) accepted refused = refused cause.UnknownTheory refl
  statement_total (sorts names) accepted refused = all_total sort_fault with_sort names accepted refused
  statement_total (operators forms args result a k i) accepted refused =
      look_up (sort_numbers th args) cause.UnknownSort
      (λ ss. LacksOr (sort_number th.signature result) cause.UnknownSort (λ s. IsCauseOf (first_fault (operator_fault ss s a k i) (with_operator ss s a k i) th forms)))
      (λ ss e not. look_up (sort_number th.signature result) cause.UnknownSort (λ s. IsCauseOf (first_fault (operator_fault ss s a k i) (with_operator ss s a k i) th forms))
      (λ s f. all_total (operator_fault ss s a k i) (with_operator ss s a k i) forms (λ u h. accepted u (record { sorts = ss; sort = s; args_are = e; result_is = f; adds = h }))) not) refused
  statement_total (variables names sort) accepted refused =
      look_up (sort_number th.signature sort) cause.UnknownSort (λ s. IsCauseOf (first_fault (variable_fault s) (with_variable s) th names))
      (λ s e. all_total (variable_fault s) (with_variable s) names (λ u h. accepted u (record { number = s; sort_is = e; adds = h }))) refused
  statement_total (equation left right conds exec) accepted refused = terms_total (first_long lists) (ReadsEquation th lists) (terms_text th) go (λ c h. refused c (inl h))
    where
      lists : List (List (List ℕ))
      lists = equation_lists left right conds

      go : (ts : List Tree) → ReadsAlone (first_long lists) (ReadsEquation th lists) ts → ⊥
      go ts h =
          let r = goal_read th left right conds ts h.reads in
          let g = r.0 in
          let alone = subst (ReadsAlone (first_long lists) (ReadsEquation th lists)) r.1 h in
          fault_total (equation_fault th g.conds)
          (λ e. accepted (with_equation th (record { left = g.left; right = g.right; conds = g.conds; exec = exec })) (record { says = g; alone = alone; no_fault = e; is = refl }))
          (λ c f. refused c (inr (g, (alone, f))))
  statement_total (derivative term) accepted refused = terms_total (long_count term) (ReadsHole th term) (terms_text th) go (λ c h. refused c (inl h))
    where
      go : (ts : List Tree) → ReadsAlone (long_count term) (ReadsHole th term) ts → ⊥
      go [] h = let z = h.reads.1 in cc
      go (t ∷ []) h =
          fault_total (derivative_fault th t) (λ e. accepted (with_derivative th t) (record { body = t; alone = h; no_fault = e; is = refl })) (λ c f. refused c (inr (t, (h, f))))
      go (t ∷ s ∷ ts) h = let z = h.reads.1 in cc
  statement_total (cases sort names) accepted refused =
      look_up (sort_number th.signature sort) cause.UnknownSort (λ s. LacksOr (constant_numbers th s names) cause.NoParse (λ cs. IsCauseOf (cases_fault th s cs)))
      (λ s e not. look_up (constant_numbers th s names) cause.NoParse (λ cs. IsCauseOf (cases_fault th s cs))
      (λ cs f. fault_total (cases_fault th s cs)
      (λ g. accepted (with_cases th s cs) (record { number = s; constants = cs; sort_is = e; constants_are = f; no_fault = g; is = refl }))) not) refused

module _ (some : (bytes : List ℕ) → (ss : List Span) × ((o : Option LexFault) × Cuts 0 bytes ss o)) where
  by_total : (o : Option (List ℕ)) (s : Scope) (said : Said) → Either (AddsBy o s said) (RefusesBy o s said)
  by_total None s said accepted refused = statement_total s.theory said (λ u h. accepted (scope u s.included) (h, refl)) refused
  by_total (Some name) s said accepted refused = go (is_included s name) refl (text_named name) refl
    where
      go : (b : Bool) → is_included s name ≡ b → (o : Option (List ℕ)) → text_named name ≡ o → ⊥
      go true e o f = accepted s (again e)
      go false e None f = refused cause.UnknownTheory (unknown e f)
      go false e (Some text) f =
          text_total AddsStatement RefusesStatement statement_total some (λ _. with_variables s.theory []) text (λ u l. accepted _ (anew text u e f l)) (λ n c l. refused c (broken text n c e f l))

  pub read_total : (bytes : List ℕ) → ReadOrRefused bytes
  read_total bytes accepted refused =
      text_total AddsIn RefusesIn (λ s said. by_total (included_name said) s said) some begun bytes (λ last l. accepted last.theory (record { included = last.included; leads = l })) refused
