-- The account of a turn, by what normalising, Join and the lemma pass come to.
use Rattle.std.proofs.Common.{◌≡◌, ℕ, false, List, [], ◌++◌, Option, Some, None, Result, Ok, Err, refl, ap, sym, subst, ◌∙◌}
use Rattle.std.specs.Prelude.{◌≢◌, IfOk, OnOk}
use Rattle.circ_term.specs.Tree.{Tree}
use Rattle.circ_theory.specs.Theory.{Theory, Pair, goal}
use Rattle.circ_theory.specs.Goal.{Goal}
use Rattle.circ_special.specs.declared.place.Place.{Place}
use Rattle.circ_rewrite.specs.declared.parts.Rule.{Rule}
use Rattle.circ_rewrite.specs.declared.fault.RewriteFault.{RewriteFault}
use Rattle.circ_rewrite.specs.declared.fault.RewriteFault.TheVariants as fault
use Rattle.circ_conditional_norm.specs.Work.{Work, Made}
use Rattle.circ_tries.specs.Trying.{Hinders}
use Rattle.circ_join.specs.Stopping.{Stops}
use Rattle.circ_join.specs.declared.stop.Stop.{Stop as TheStop}
use Rattle.circ_join.specs.declared.stop.Stop.TheVariants as stop
use Rattle.circ_plain_search.specs.Joining.{Stop}
use Rattle.circ_plain_search.specs.Search.{Sides}
use Rattle.circ_plain_search.specs.Joining.{HypothesisUse}
use Rattle.circ_conditional_search.specs.Joining.{joined_trying, Swept, swept_with, swept_trying, work_then}
use Rattle.circ_conditional_search.specs.Search.{condition_normaliser}
use Rattle.circ_memo.specs.Value.{Rewriting}
use Rattle.circ_join.specs.Trying.{normaliser_of, Works}
use Rattle.circ_turn.specs.Ending.{reducing}
use Rattle.circ_plain_search.specs.BlockRules.{hidden_lemmas}
use Rattle.circ_attempt.specs.Search.{Conduct, Going}
use Rattle.circ_trace.specs.Account.{join_deed_trying, account_on, account_of, plain_account_if}
use Rattle.circ_trace.specs.Deed.{Deed, Opens, Ends, deed_by, passes_or, plain_deed}
use Rattle.circ_trace.specs.Used.{numbers_of}
use Rattle.circ_trace.specs.declared.account.Account.{Account as TheAccount}
use Rattle.circ_trace.specs.declared.account.Deed.{Deed as TheDeed}

-- ---- work that is hindered ends the search

ends : {A : Type 0} (e : RewriteFault) (left : ℕ) (w : Work A) (f : A → ℕ → Deed) → Hinders e left w → e ≢ fault.Memory → deed_by w f ≡ Ends false
ends fault.Spent left w f h n = ap (λ x. deed_by x f) h.0
ends (fault.TooBig x) left w f h n = ap (λ y. deed_by y f) h
ends (fault.TooDeep x) left w f h n = ap (λ y. deed_by y f) h
ends fault.Memory left w f h n = absurd (n refl)

ends_then : {A B : Type 0} (e : RewriteFault) (left : ℕ) (w : Work A) (g : A → ℕ → Work B) (f : B → ℕ → Deed) → Hinders e left w → e ≢ fault.Memory
    → deed_by (work_then w g) f ≡ Ends false
ends_then fault.Spent left w g f h n = ap (λ x. deed_by (work_then x g) f) h.0
ends_then (fault.TooBig x) left w g f h n = ap (λ y. deed_by (work_then y g) f) h
ends_then (fault.TooDeep x) left w g f h n = ap (λ y. deed_by (work_then y g) f) h
ends_then fault.Memory left w g f h n = absurd (n refl)

-- the deed that is told where the work is hindered
pub hindered : {A E : Type 0} (e : RewriteFault) (left : ℕ) (w : Work A) (f : A → ℕ → Deed) → Hinders e left w → (r : Result TheDeed E)
    → IfOk r (λ d. plain_deed d ≡ Ends false) → OnOk r (e ≢ fault.Memory) → IfOk r (λ d. plain_deed d ≡ deed_by w f)
hindered e left w f h (Ok d) is n = is ∙ sym (ends e left w f h n)
hindered e left w f h (Err x) is n = tt

pub first_hindered : {A B E : Type 0} (e : RewriteFault) (left : ℕ) (w : Work A) (g : A → ℕ → Work B) (f : B → ℕ → Deed) → Hinders e left w → (r : Result TheDeed E)
    → IfOk r (λ d. plain_deed d ≡ Ends false) → OnOk r (e ≢ fault.Memory) → IfOk r (λ d. plain_deed d ≡ deed_by (work_then w g) f)
first_hindered e left w g f h (Ok d) is n = is ∙ sym (ends_then e left w g f h n)
first_hindered e left w g f h (Err x) is n = tt

-- what holds of the value is told where there is one
pub deed_made : {A E : Type 0} (a : A) (k : ℕ) (w : Work A) (f : A → ℕ → Deed) → w ≡ Made a k → (r : Result TheDeed E) → IfOk r (λ d. plain_deed d ≡ f a k)
    → IfOk r (λ d. plain_deed d ≡ deed_by w f)
deed_made a k w f h (Ok d) is = is ∙ sym (ap (λ x. deed_by x f) h)
deed_made a k w f h (Err x) is = tt

pub first_made : {A B E : Type 0} (a : A) (k : ℕ) (w : Work A) (g : A → ℕ → Work B) (f : B → ℕ → Deed) → w ≡ Made a k → (r : Result TheDeed E)
    → IfOk r (λ d. plain_deed d ≡ deed_by (g a k) f) → IfOk r (λ d. plain_deed d ≡ deed_by (work_then w g) f)
first_made a k w g f h (Ok d) is = is ∙ sym (ap (λ x. deed_by (work_then x g) f) h)
first_made a k w g f h (Err x) is = tt

-- ---- Join and the lemma pass by the rules of a block under the conditions of a goal

pub joined_here : {X : Type 0} (view : X → Option (List HypothesisUse)) (th : Theory) (E : List Goal) (A : List Pair) (red : Rewriting) (G : List Place) (H : List Goal)
    (s t : Tree) (k left : ℕ) (r : Result X RewriteFault) → red ≡ reducing th E A → Works view left (joined_trying (normaliser_of red) G H [] s t k) r
    → Works view left (joined_trying (condition_normaliser th E A) G H [] s t k) r
joined_here view th E A red G H s t k left r e h =
    let P : Rewriting → Type 0 = λ x. Works view left (joined_trying (normaliser_of x) G H [] s t k) r in subst P e h

pub swept_here : {X : Type 0} (view : X → Swept) (th : Theory) (E : List Goal) (A : List Pair) (red : Rewriting) (G : List Place) (K L : List Rule)
    (t : Tree) (k left : ℕ) (r : Result X RewriteFault) → red ≡ reducing th E A → K ≡ L
    → Works view left (swept_trying (normaliser_of red) G K [] t (swept_with t []) k) r
    → Works view left (swept_trying (condition_normaliser th E A) G L [] t (swept_with t []) k) r
swept_here view th E A red G K L t k left r e l h =
    let P : Rewriting → Type 0 = λ x. Works view left (swept_trying (normaliser_of x) G K [] t (swept_with t []) k) r in
    let Q : List Rule → Type 0 = λ x. Works view left (swept_trying (condition_normaliser th E A) G x [] t (swept_with t []) k) r in
    subst Q l (subst P e h)

-- ---- what is done where the sides do not join

module _ (th : Theory) (G : List Place) (E : List Goal) (g : Goal) where
  abbrev swept_from : Tree → (budget : ℕ) → Work Swept
  swept_from t k = swept_trying (condition_normaliser th E g.conds) G (hidden_lemmas th 0 E) [] t (swept_with t []) k

  abbrev with_right : Swept → (budget : ℕ) → Work (Swept × Swept)
  with_right a k = work_then (swept_from g.right k) (λ b n. Made (a, b) n)

  abbrev by_pass : Swept × Swept → (budget : ℕ) → Deed
  by_pass w l = passes_or (numbers_of w.0.uses ++ numbers_of w.1.uses) (Opens false)

  pub left_hindered : {X : Type 0} (e : RewriteFault) (k left : ℕ) → Hinders e left (swept_from g.left k) → (r : Result TheDeed X)
      → IfOk r (λ d. plain_deed d ≡ Ends false) → OnOk r (e ≢ fault.Memory) → IfOk r (λ d. plain_deed d ≡ join_deed_trying th G E g None k)
  left_hindered e k left h r = first_hindered e left (swept_from g.left k) with_right by_pass h r

  pub right_hindered : {X : Type 0} (a : Swept) (e : RewriteFault) (k m left : ℕ) → swept_from g.left k ≡ Made a m → Hinders e left (swept_from g.right m)
      → (r : Result TheDeed X) → IfOk r (λ d. plain_deed d ≡ Ends false) → OnOk r (e ≢ fault.Memory) → IfOk r (λ d. plain_deed d ≡ join_deed_trying th G E g None k)
  right_hindered a e k m left s h r is n =
      first_made a m (swept_from g.left k) with_right by_pass s r (first_hindered e left (swept_from g.right m) (λ b l. Made (a, b) l) by_pass h r is n)

  pub both_swept : {X : Type 0} (a b : Swept) (k m left : ℕ) → swept_from g.left k ≡ Made a m → swept_from g.right m ≡ Made b left → (r : Result TheDeed X)
      → IfOk r (λ d. plain_deed d ≡ passes_or (numbers_of a.uses ++ numbers_of b.uses) (Opens false)) → IfOk r (λ d. plain_deed d ≡ join_deed_trying th G E g None k)
  both_swept a b k m left s t r is =
      first_made a m (swept_from g.left k) with_right by_pass s r (first_made b left (swept_from g.right m) (λ b l. Made (a, b) l) by_pass t r is)

module _ (th : Theory) (G : List Place) (l : Conduct) (here : Going) (A : List Pair) where
  stopped : (e : TheStop) (r : Result Sides Stop) → Stops r e → e ≢ stop.Memory → account_of th G l here A r ≡ None
  stopped stop.Spent r h n = ap (account_of th G l here A) h
  stopped (stop.TooBig x) r h n = ap (account_of th G l here A) h
  stopped (stop.TooDeep x) r h n = ap (account_of th G l here A) h
  stopped (stop.Stuck s t B) r h n = ap (account_of th G l here A) h
  stopped stop.Memory r h n = absurd (n refl)

  -- there is none where the search ends while the goal in hand is normalised
  pub no_account : {E : Type 0} (e : TheStop) (n : Result Sides Stop) → Stops n e → (r : Result (Option TheAccount) E)
      → IfOk r (λ o. plain_account_if o ≡ None) → OnOk r (e ≢ stop.Memory) → IfOk r (λ o. plain_account_if o ≡ account_of th G l here A n)
  no_account e n h (Ok o) is m = is ∙ sym (stopped e n h m)
  no_account e n h (Err y) is m = tt

  pub some_account : {E : Type 0} (n : Sides) (s : Result Sides Stop) → s ≡ Ok n → (g : Goal) → g.conds ≡ A → g.left ≡ n.left → g.right ≡ n.right
      → (r : Result (Option TheAccount) E) → IfOk r (λ o. plain_account_if o ≡ Some (account_on th G l here g n.budget))
      → IfOk r (λ o. plain_account_if o ≡ account_of th G l here A s)
  some_account n s h g cs ls rs (Ok o) is =
      let whole : g ≡ goal A n.left n.right = ap (λ c. goal c g.left g.right) cs ∙ ap (λ t. goal A t g.right) ls ∙ ap (goal A n.left) rs in
      is ∙ ap (λ y. Some (account_on th G l here y n.budget)) whole ∙ sym (ap (account_of th G l here A) h)
  some_account n s h g cs ls rs (Err y) is = tt
