-- The sorts of a grammar's terms, one sort more.
use Rattle.std.proofs.Common.{◌≡◌, ◌⊎◌, ◌<◌, ◌+◌, ◌++◌, ℕ, List, [], ◌∷◌, length, get_or, Bool, Some, inl, inr, sym, ◌∙◌, ap, subst, refl, arith}
use Rattle.std.specs.List.{slice_get}
use Rattle.std.proofs.lemmas.Bool.{cases_eq}
use Rattle.std.proofs.lemmas.Option.{slice_get-get_or}
use Rattle.circ_spelling.specs.declared.grammar.Rule.{Rule}
use Rattle.circ_spelling.specs.declared.grammar.Variable.{Variable}
use Rattle.circ_spelling.specs.Sorts.{HasSort, StaySorts, IsSeen, AreSeen, RuleSorts, VariableSorts}

-- sorts that are listed
pub seen_none : (n : ℕ) (seen : List Bool) (sorts : List ℕ) → ((s : ℕ) → IsSeen seen s → ⊥) → AreSeen seen sorts
seen_none n seen sorts h s e = absurd (h s e)

has_push : (sorts : List ℕ) (s : ℕ) → HasSort (sorts ++ s ∷ []) s
has_push [] s = inl refl
has_push (x ∷ xs) s = inr (has_push xs s)

stay_push : (sorts : List ℕ) (x s : ℕ) → HasSort sorts s → HasSort (sorts ++ x ∷ []) s
stay_push [] x s h = absurd h
stay_push (y ∷ ys) x s (inl h) = inl h
stay_push (y ∷ ys) x s (inr h) = inr (stay_push ys x s h)

pub pushed_here : (sorts new : List ℕ) (s : ℕ) → new ≡ sorts ++ s ∷ [] → HasSort new s
pushed_here sorts new s e = let P : List ℕ → Type 0 = λ x. HasSort x s in subst P (sym e) (has_push sorts s)

pub pushed_stay : (sorts new : List ℕ) (s : ℕ) → new ≡ sorts ++ s ∷ [] → StaySorts sorts new
pushed_stay sorts new s e x h = let P : List ℕ → Type 0 = λ y. HasSort y x in subst P (sym e) (stay_push sorts s x h)

pub pushed_seen : (old seen : List Bool) (sorts new : List ℕ) (s : ℕ) → new ≡ sorts ++ s ∷ [] → ((x : ℕ) → IsSeen seen x → IsSeen old x ⊎ (x ≡ s)) → AreSeen old sorts → AreSeen seen new
pushed_seen old seen sorts new s e see h x k = go (see x k)
  where
    go : (IsSeen old x ⊎ (x ≡ s)) → HasSort new x
    go (inl a) = pushed_stay sorts new s e x (h x a)
    go (inr a) = subst (HasSort new) (sym a) (pushed_here sorts new s e)

pub rule_sorts_step : (rs : List Rule) (m : ℕ) (q : Rule) (old new : List ℕ) → slice_get rs m ≡ Some q → StaySorts old new → HasSort new q.sort → RuleSorts rs m old → RuleSorts rs (m + 1) new
rule_sorts_step rs m q old new at stay here h n r l e = go (cases_eq n m)
  where
    go : ((n ≡ m) ⊎ (n ≡ m → ⊥)) → HasSort new r.sort
    go (inl i) =
        let z : Some q ≡ Some r = sym at ∙ ap (slice_get rs) (sym i) ∙ e in
        let P : Rule → Type 0 = λ x. HasSort new x.sort in
        let f : q ≡ r = cc z in subst P f here
    go (inr i) = stay r.sort (h n r (omega arith) e)

pub rule_sorts_stay : (rs : List Rule) (m : ℕ) (old new : List ℕ) → StaySorts old new → RuleSorts rs m old → RuleSorts rs m new
rule_sorts_stay rs m old new stay h n r l e = stay r.sort (h n r l e)

pub variable_sorts_step : (vs : List Variable) (m : ℕ) (d : Variable) (old new : List ℕ) → m < length vs → StaySorts old new → HasSort new (get_or vs m d).sort → VariableSorts vs m old → VariableSorts vs (m + 1) new
variable_sorts_step vs m d old new within stay here h n v l e = go (cases_eq n m)
  where
    go : ((n ≡ m) ⊎ (n ≡ m → ⊥)) → HasSort new v.sort
    go (inl i) =
        let z : Some (get_or vs m d) ≡ Some v = sym (slice_get-get_or vs m d within) ∙ ap (slice_get vs) (sym i) ∙ e in
        let P : Variable → Type 0 = λ x. HasSort new x.sort in
        let f : get_or vs m d ≡ v = cc z in subst P f here
    go (inr i) = stay v.sort (h n v (omega arith) e)
