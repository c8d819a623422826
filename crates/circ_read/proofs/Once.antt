-- A text leads to one value, or has one first cause.
use Rattle.std.proofs.Common.{◌≡◌, ℕ, ◌<◌, List, ◌∷◌, ◌++◌, Bool, codes, Result, Ok, Err, ◌⊎◌, inl, inr, refl, sym, ap, ◌∙◌, subst, arith}
use Rattle.std.proofs.lemmas.Bool.{cases_order}
use Rattle.circ_statement.specs.Said.{Said}
use Rattle.circ_statement.specs.Statement.{IsStatement, IsLeftOut}
use Rattle.circ_read.specs.declared.cause.Cause.{Cause}
use Rattle.circ_read.specs.declared.cause.Cause.TheVariants as cause
use Rattle.circ_read.specs.Causes.{AreAlike, same, ambiguous}
use Rattle.circ_read.specs.Text.{HasNoStop, ending, AddsTokens, Reaches, start, next}
use Rattle.circ_read.specs.Failing.{IsNoStatement, left_out, no_shape, RefusesTokens, says_nothing, is_refused, Breaks, at_a_statement, at_the_end}
use Rattle.circ_read.specs.Steps.{SaidOutcome, TokensOutcome}
use Rattle.circ_read.proofs.Stops.{cut_once, not_cut, ending_whole}

alike_ok : {A : Type 0} (r q : Result A Cause) → AreAlike r q → (a : A) → r ≡ Ok a → q ≡ Ok a
alike_ok r q same a e = e
alike_ok r q ambiguous a e = cc

pub ok_same : {A : Type 0} (a b : A) → AreAlike (Ok a) (Ok b) → a ≡ b
ok_same a b h = let e = alike_ok (Ok a) (Ok b) h a refl in cc

pub ok_err : {A : Type 0} (a : A) (c : Cause) → AreAlike (Ok a) (Err c) → ⊥
ok_err a c h = let e = alike_ok (Ok a) (Err c) h a refl in cc

pub alike_of : {A : Type 0} (r q o : Result A Cause) → r ≡ o → q ≡ o → AreAlike r q
alike_of r q o e f = subst (λ x. AreAlike r x) (e ∙ sym f) same

-- what statements say, and by what they are left out
pub record SaidOnce : Type 0 where
  pub said : (ws : List (List ℕ)) (s t : Said) → IsStatement ws s → IsStatement ws t → s ≡ t
  pub out : (ws : List (List ℕ)) (v w : List ℕ) → IsLeftOut ws v → IsLeftOut ws w → v ≡ w

module _ (law : SaidOnce) where
  no_statement_once : (ws : List (List ℕ)) (c d : Cause) → IsNoStatement ws c → IsNoStatement ws d → c ≡ d
  no_statement_once ws c d (left_out v h) (left_out w k) = ap cause.LeftOut (law.out ws v w h k)
  no_statement_once ws c d (left_out v h) (no_shape k n) = absurd (k v h)
  no_statement_once ws c d (no_shape k n) (left_out v h) = absurd (k v h)
  no_statement_once ws c d (no_shape k n) (no_shape l m) = refl

  no_statement_said : (ws : List (List ℕ)) (c : Cause) (s : Said) → IsNoStatement ws c → ((w : List ℕ) → IsLeftOut ws w → ⊥) → IsStatement ws s → ⊥
  no_statement_said ws c s (left_out v h) kept is = kept v h
  no_statement_said ws c s (no_shape k n) kept is = n s is

  module _ {A : Type 0} (Adds : A → Said → A → Type 0) (Refuses : A → Said → Cause → Type 0)
      (outcome_once : (a : A) (s : Said) (r q : Result A Cause) → SaidOutcome Adds Refuses a s r → SaidOutcome Adds Refuses a s q → AreAlike r q) where
    refused_said : (a b : A) (ws : List (List ℕ)) (c : Cause) → AddsTokens Adds a ws b → RefusesTokens Refuses a ws c → ⊥
    refused_said a b ws c t (says_nothing p) = no_statement_said ws c t.said p t.kept t.says
    refused_said a b ws c t (is_refused s kept says r) = ok_err b c (outcome_once a s (Ok b) (Err c) (subst (λ x. Adds a x b) (law.said ws t.said s t.says says) t.adds) r)

    refused_once : (a : A) (ws : List (List ℕ)) (c d : Cause) → RefusesTokens Refuses a ws c → RefusesTokens Refuses a ws d → AreAlike {A = A} (Err c) (Err d)
    refused_once a ws c d (says_nothing p) (says_nothing q) = alike_of _ _ (Err c) refl (ap Err (no_statement_once ws d c q p))
    refused_once a ws c d (says_nothing p) (is_refused s kept says r) = absurd (no_statement_said ws c s p kept says)
    refused_once a ws c d (is_refused s kept says r) (says_nothing p) = absurd (no_statement_said ws d s p kept says)
    refused_once a ws c d (is_refused s kept says r) (is_refused t kept' says' q) =
        outcome_once a s (Err c) (Err d) r (subst (λ x. Refuses a x d) (law.said ws t s says' says) q)

    pub tokens_once : (a : A) (ws : List (List ℕ)) (r q : Result A Cause) → TokensOutcome Adds Refuses a ws r → TokensOutcome Adds Refuses a ws q → AreAlike r q
    tokens_once a ws (Ok b) (Ok d) h k = outcome_once a h.said (Ok b) (Ok d) h.adds (subst (λ x. Adds a x d) (law.said ws k.said h.said k.says h.says) k.adds)
    tokens_once a ws (Ok b) (Err c) h k = absurd (refused_said a b ws c h k)
    tokens_once a ws (Err c) (Ok b) h k = absurd (refused_said a b ws c k h)
    tokens_once a ws (Err c) (Err d) h k = refused_once a ws c d h k

    module _ (first : A) (body : List (List ℕ)) where
      pub reaches_once : (k j : ℕ) (a b : A) (left rest : List (List ℕ)) → k ≡ j → Reaches Adds first body k a left → Reaches Adds first body j b rest → (a ≡ b) × (left ≡ rest)
      reaches_once k j a b left rest e start start = (refl, refl)
      reaches_once k j a b left rest e start (next i c d here ws more r h n t) = absurd (omega arith)
      reaches_once k j a b left rest e (next i c d here ws more r h n t) start = absurd (omega arith)
      reaches_once k j a b left rest e (next i c d here ws more r h n t) (next i' c' d' here' ws' more' r' h' n' t') =
          let before = reaches_once i i' c c' here here' (omega arith) r r' in
          let cut = cut_once ws ws' left rest (sym h ∙ before.1 ∙ h') n n' in
          (ok_same a b (tokens_once c ws (Ok a) (Ok b) t (subst (λ x. AddsTokens Adds x ws b) (sym before.0) (subst (λ x. AddsTokens Adds c' x b) (sym cut.0) t'))), cut.1)

      -- statement j is added
      record Step (j : ℕ) : Type 0 where
        now : A
        here : List (List ℕ)
        ws : List (List ℕ)
        left : List (List ℕ)
        then : A
        reached : Reaches Adds first body j now here
        cut : here ≡ ws ++ codes "." ∷ left
        whole : HasNoStop ws
        adds : AddsTokens Adds now ws then

      earlier : (k j : ℕ) (a : A) (left : List (List ℕ)) → j < k → Reaches Adds first body k a left → Step j
      earlier k j a left l start = absurd (omega arith)
      earlier k j a left l (next i c d here ws more r h n t) = go (λ less. earlier i j c here less r) (cases_order j i)
        where
          go : (j < i → Step j) → (j ≡ i) ⊎ ((j < i) ⊎ (i < j)) → Step j
          go before (inl e) = subst Step (sym e) (record { now = c; here = here; ws = ws; left = left; then = a; reached = r; cut = h; whole = n; adds = t })
          go before (inr (inl less)) = before less
          go before (inr (inr more)) = absurd (omega arith)

      no_stop_later : (k j : ℕ) (a b : A) (left rest : List (List ℕ)) → HasNoStop left → Reaches Adds first body k a left → Reaches Adds first body j b rest → k < j → ⊥
      no_stop_later k j a b left rest h r q l =
          let step = earlier j k b rest l q in
          let at = reaches_once k k a step.now left step.here refl r step.reached in
          not_cut left step.ws step.left (at.1 ∙ step.cut) h

      module _ (opened : Bool) where
        no_break_before : (k j : ℕ) (b : A) (rest : List (List ℕ)) (c : Cause) → Breaks Adds Refuses first body opened k c → Reaches Adds first body j b rest → k < j → ⊥
        no_break_before k j b rest c (at_the_end i a left r h n) q l = no_stop_later k j a b left rest h r q l
        no_break_before k j b rest c (at_a_statement i a here ws left d r h n t) q l =
            let step = earlier j k b rest l q in
            let at = reaches_once k k a step.now here step.here refl r step.reached in
            let cut = cut_once ws step.ws left step.left (sym h ∙ at.1 ∙ step.cut) n step.whole in
            let adds : AddsTokens Adds a ws step.then = subst (λ x. AddsTokens Adds x ws step.then) (sym at.0) (subst (λ x. AddsTokens Adds step.now x step.then) (sym cut.0) step.adds) in
            ok_err step.then c (tokens_once a ws (Ok step.then) (Err c) adds t)

        record Reached (k : ℕ) : Type 0 where
          now : A
          here : List (List ℕ)
          reached : Reaches Adds first body k now here

        reached_by : (k : ℕ) (c : Cause) → Breaks Adds Refuses first body opened k c → Reached k
        reached_by k c (at_a_statement i a here ws left d r h n t) = record { now = a; here = here; reached = r }
        reached_by k c (at_the_end i a left r h n) = record { now = a; here = left; reached = r }

        breaks_here : (k : ℕ) (c d : Cause) → Breaks Adds Refuses first body opened k c → Breaks Adds Refuses first body opened k d → AreAlike {A = A} (Err c) (Err d)
        breaks_here k c d (at_the_end i a left r h n) (at_the_end i' a' left' r' h' n') = same
        breaks_here k c d (at_the_end i a left r h n) (at_a_statement i' a' here ws left' d' r' h' n' t') =
            absurd (not_cut left ws left' ((reaches_once k k a a' left here refl r r').1 ∙ h') h)
        breaks_here k c d (at_a_statement i' a' here ws left' d' r' h' n' t') (at_the_end i a left r h n) =
            absurd (not_cut left ws left' ((reaches_once k k a a' left here refl r r').1 ∙ h') h)
        breaks_here k c d (at_a_statement i a here ws left e r h n t) (at_a_statement i' a' here' ws' left' e' r' h' n' t') =
            let at = reaches_once k k a a' here here' refl r r' in
            let cut = cut_once ws ws' left left' (sym h ∙ at.1 ∙ h') n n' in
            tokens_once a ws (Err c) (Err d) t (subst (λ x. RefusesTokens Refuses x ws d) (sym at.0) (subst (λ x. RefusesTokens Refuses a' x d) (sym cut.0) t'))

        -- one first cause
        pub breaks_once : (k j : ℕ) (c d : Cause) → Breaks Adds Refuses first body opened k c → Breaks Adds Refuses first body opened j d → (j ≡ k) × AreAlike {A = A} (Err c) (Err d)
        breaks_once k j c d b e = go (cases_order j k)
          where
            go : (j ≡ k) ⊎ ((j < k) ⊎ (k < j)) → (j ≡ k) × AreAlike {A = A} (Err c) (Err d)
            go (inl s) = (s, breaks_here k c d b (subst (λ i. Breaks Adds Refuses first body opened i d) s e))
            go (inr (inl less)) = let at = reached_by k c b in absurd (no_break_before j k at.now at.here d e at.reached less)
            go (inr (inr more)) = let at = reached_by j d e in absurd (no_break_before k j at.now at.here c b at.reached more)

        -- one last value
        pub ends_once : (k j : ℕ) (a b : A) → Reaches Adds first body k a (ending opened) → Reaches Adds first body j b (ending opened) → a ≡ b
        ends_once k j a b r q = go (cases_order j k)
          where
            go : (j ≡ k) ⊎ ((j < k) ⊎ (k < j)) → a ≡ b
            go (inl s) = (reaches_once k j a b _ _ (sym s) r q).0
            go (inr (inl less)) = absurd (no_stop_later j k b a _ _ (ending_whole opened) q r less)
            go (inr (inr more)) = absurd (no_stop_later k j a b _ _ (ending_whole opened) r q more)

        no_break_here : (k : ℕ) (a : A) (c : Cause) → Reaches Adds first body k a (ending opened) → Breaks Adds Refuses first body opened k c → ⊥
        no_break_here k a c r (at_a_statement i a' here ws left d q h n t) = not_cut (ending opened) ws left ((reaches_once k k a a' _ here refl r q).1 ∙ h) (ending_whole opened)
        no_break_here k a c r (at_the_end i a' left q h n) = n (sym (reaches_once k k a a' _ left refl r q).1)

        -- no cause where there is an end
        pub ends_or_breaks : (k j : ℕ) (a : A) (c : Cause) → Reaches Adds first body k a (ending opened) → Breaks Adds Refuses first body opened j c → ⊥
        ends_or_breaks k j a c r b = go (cases_order j k)
          where
            go : (j ≡ k) ⊎ ((j < k) ⊎ (k < j)) → ⊥
            go (inl s) = no_break_here k a c r (subst (λ i. Breaks Adds Refuses first body opened i c) s b)
            go (inr (inl less)) = no_break_before j k a _ c b r less
            go (inr (inr more)) = let at = reached_by j c b in no_stop_later k j a at.now _ at.here (ending_whole opened) r at.reached more
