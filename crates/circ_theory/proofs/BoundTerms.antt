-- The terms of a substitution that binds exactly some variables, in the order of these.
use Rattle.std.proofs.Common.{◌≡◌, ℕ, Bool, true, false, ◌==◌, ◌&&◌, ◌||◌, nat_lt, cond, if◌then◌else◌, List, [], ◌∷◌, ◌++◌, map, Option, Some, None}
use Rattle.std.proofs.Common.{is_some, unwrap_or, Ordering, Less, Equal, Greater, refl, ap, sym, ◌∙◌}
use Rattle.std.specs.Prelude.{T}
use Rattle.std.specs.List.{AllByRecursion, list_any}
use Rattle.std.specs.List.Sorted.{IsStrictlySortedBy}
use Rattle.std.specs.Ordering.{nat_cmp, ordering_then, ordering_reverse, eq_by_cmp, is_eq, is_lt}
use Rattle.std.specs.Cmp.{IsTotalOrder, both_tied, unsigned_ties}
use Rattle.std.specs.FinMap.Entries.{put, find, below_all, is_sorted, by_order, is_sorted-put, same_entries}
use Rattle.std.proofs.lemmas.Bool.{eqb-true, eq-eqb, and_parts}
use Rattle.std.proofs.lemmas.Cmp.{nat_cmp_total, then_total, on_total}
use Rattle.std.proofs.lemmas.List.Folds.{list_any-append}
use Rattle.circ_term.specs.Tree.{Tree, Trees, Var, App, none, more}
use Rattle.circ_term.specs.Subst.{Bound, bound_cmp, found, substitution_of}
use Rattle.circ_pairs.specs.declared.goals.Goal.{Goal}
use Rattle.circ_pairs.specs.Pair.{Pair}
use Rattle.circ_pairs.specs.Goal.{sides}
use Rattle.circ_pairs.specs.Variables.{Variable, is_variable, seen, seen_in, seen_in_all, seen_in_pairs, variables_of, is_before, put_in_order, sorted}

-- ---- the order of variables

abbrev variable_cmp : Variable → Variable → Ordering
variable_cmp v w = ordering_then (nat_cmp v.number w.number) (nat_cmp v.sort w.sort)

variable_total : IsTotalOrder variable_cmp
variable_total =
    then_total (on_total (λ (v : Variable). v.number) nat_cmp_total) (on_total (λ (v : Variable). v.sort) nat_cmp_total)

is_variable-tied : (v w : Variable) → is_variable v w ≡ eq_by_cmp variable_cmp v w
is_variable-tied v w =
    both_tied _ _ (nat_cmp v.number w.number) (nat_cmp v.sort w.sort) (unsigned_ties v.number w.number) (unsigned_ties v.sort w.sort)

same_variable : (v w : Variable) → is_variable v w ≡ true → v ≡ w
same_variable v w e =
    let parts = and_parts (v.number == w.number) (v.sort == w.sort) e in
    let with_number : ℕ → Variable = λ n. record { number = n; sort = v.sort } in
    let with_sort : ℕ → Variable = λ s. record { number = w.number; sort = s } in
    ap with_number (eqb-true v.number w.number parts.0) ∙ ap with_sort (eqb-true v.sort w.sort parts.1)

equal_variable : (v w : Variable) → variable_cmp v w ≡ Equal → v ≡ w
equal_variable v w e = same_variable v w (is_variable-tied v w ∙ ap is_eq e)

is_variable-itself : (v : Variable) → is_variable v v ≡ true
is_variable-itself v = rw (eq-eqb v.number v.number refl, eq-eqb v.sort v.sort refl) refl

other_way : (v w : Variable) → is_variable v w ≡ false → is_variable w v ≡ false
other_way v w e = go (is_variable w v) refl
  where
    go : (b : Bool) → is_variable w v ≡ b → is_variable w v ≡ false
    go false f = f
    go true f = absurd (let same = same_variable w v f in let z = rw (← same) at e in let i = is_variable-itself w in cc)

less_then : (a b : Ordering) → is_lt (ordering_then a b) ≡ (is_lt a || (is_eq a && is_lt b))
less_then Less b = refl
less_then Equal b = refl
less_then Greater b = refl

less_number : (n m : ℕ) → nat_lt n m ≡ is_lt (nat_cmp n m)
less_number n m = go (nat_lt n m) (n == m)
  where
    go : (a b : Bool) → a ≡ is_lt (cond a Less (cond b Equal Greater))
    go true b = refl
    go false true = refl
    go false false = refl

is_before-less : (v w : Variable) → is_before v w ≡ is_lt (variable_cmp v w)
is_before-less v w =
    let less = less_number v.number w.number in
    let tied = unsigned_ties v.number w.number in
    let then_less = less_number v.sort w.sort in
    (λ i. less i || (tied i && then_less i)) ∙ sym (less_then (nat_cmp v.number w.number) (nat_cmp v.sort w.sort))

-- ---- variables of which none stands twice

abbrev pub AreApart : List Variable → Type 0
AreApart [] = Unit {0}
AreApart (v ∷ vs) = (list_any (is_variable v) vs ≡ false) × AreApart vs

apart_push : (v : Variable) (vs : List Variable) → list_any (is_variable v) vs ≡ false → AreApart vs → AreApart (vs ++ v ∷ [])
apart_push v [] e a = (refl, tt)
apart_push v (w ∷ vs) e a =
    let parts = or_parts (is_variable v w) (list_any (is_variable v) vs) e in
    let here = other_way v w parts.0 in
    (list_any-append (is_variable w) vs (v ∷ []) ∙ (rw (a.0, here) refl), apart_push v vs parts.1 a.1)
  where
    or_parts : (a b : Bool) → (a || b) ≡ false → (a ≡ false) × (b ≡ false)
    or_parts true b e = absurd (cc)
    or_parts false b e = (refl, e)

apart_seen : (v : Variable) (vs : List Variable) → AreApart vs → AreApart (seen v vs)
apart_seen v vs a = go (list_any (is_variable v) vs) refl
  where
    go : (b : Bool) → list_any (is_variable v) vs ≡ b → AreApart (if b then vs else vs ++ v ∷ [])
    go true e = a
    go false e = apart_push v vs e a

mutual
  apart_seen_in : (t : Tree) (vs : List Variable) → AreApart vs → AreApart (seen_in t vs)
  apart_seen_in (Var n s) vs a = apart_seen (record { number = n; sort = s }) vs a
  apart_seen_in (App f s ts) vs a = apart_seen_in_all ts vs a

  apart_seen_in_all : (ts : Trees) (vs : List Variable) → AreApart vs → AreApart (seen_in_all ts vs)
  apart_seen_in_all none vs a = a
  apart_seen_in_all (more t ts) vs a = apart_seen_in_all ts (seen_in t vs) (apart_seen_in t vs a)

apart_seen_in_pairs : (ps : List Pair) (vs : List Variable) → AreApart vs → AreApart (seen_in_pairs ps vs)
apart_seen_in_pairs [] vs a = a
apart_seen_in_pairs (p ∷ ps) vs a = apart_seen_in_pairs ps _ (apart_seen_in p.right _ (apart_seen_in p.left vs a))

pub variables_apart : (g : Goal) → AreApart (variables_of g)
variables_apart g = apart_seen_in_pairs (sides g ∷ g.conds) [] tt

-- ---- a list of variables and of what they are given, in order

abbrev entries : (Variable → Tree) → List Variable → List (Variable × Tree)
entries τ vs = map (λ v. (v, τ v)) vs

any_put : (v w : Variable) (ws : List Variable) → list_any (is_variable v) (put_in_order w ws) ≡ (is_variable v w || list_any (is_variable v) ws)
any_put v w [] = refl
any_put v w (u ∷ us) = go (is_before u w) (any_put v w us)
  where
    swap : (a b c d : Bool) → d ≡ (b || c) → (a || d) ≡ (b || (a || c))
    swap true true c d e = refl
    swap true false c d e = refl
    swap false b c d e = e

    go : (b : Bool) → list_any (is_variable v) (put_in_order w us) ≡ (is_variable v w || list_any (is_variable v) us)
        → list_any (is_variable v) (if b then u ∷ put_in_order w us else w ∷ u ∷ us) ≡ (is_variable v w || list_any (is_variable v) (u ∷ us))
    go true ih = swap (is_variable v u) (is_variable v w) (list_any (is_variable v) us) (list_any (is_variable v) (put_in_order w us)) ih
    go false ih = refl

any_sorted : (v : Variable) (vs : List Variable) → list_any (is_variable v) (sorted vs) ≡ list_any (is_variable v) vs
any_sorted v [] = refl
any_sorted v (w ∷ vs) = any_put v w (sorted vs) ∙ ap (λ b. is_variable v w || b) (any_sorted v vs)

entries-put : (τ : Variable → Tree) (v : Variable) (ws : List Variable) → list_any (is_variable v) ws ≡ false
    → put variable_cmp v (τ v) (entries τ ws) ≡ entries τ (put_in_order v ws)
entries-put τ v [] e = refl
entries-put τ v (w ∷ ws) e = go (variable_cmp v w) refl (is_before-less w v ∙ ap is_lt (variable_total.antisymm w v)) (λ h. entries-put τ v ws h)
  where
    go : (o : Ordering) → variable_cmp v w ≡ o → is_before w v ≡ is_lt (ordering_reverse (variable_cmp v w))
        → (list_any (is_variable v) ws ≡ false → put variable_cmp v (τ v) (entries τ ws) ≡ entries τ (put_in_order v ws))
        → by_order o ((v, τ v) ∷ (w, τ w) ∷ entries τ ws) ((w, τ v) ∷ entries τ ws) ((w, τ w) ∷ put variable_cmp v (τ v) (entries τ ws))
        ≡ entries τ (if is_before w v then w ∷ put_in_order v ws else v ∷ w ∷ ws)
    go Less f b ih = let no : is_before w v ≡ false = b ∙ ap (λ x. is_lt (ordering_reverse x)) f in rw no refl
    go Equal f b ih = absurd (let z = is_variable-tied v w ∙ ap is_eq f in let y = rw z at e in cc)
    go Greater f b ih =
        let yes : is_before w v ≡ true = b ∙ ap (λ x. is_lt (ordering_reverse x)) f in
        let apart : is_variable v w ≡ false = is_variable-tied v w ∙ ap is_eq f in
        rw yes (ap (λ es. (w, τ w) ∷ es) (ih (rw apart at e)))

entries-sorted : (τ : Variable → Tree) (vs : List Variable) → AreApart vs → T (is_sorted variable_cmp (entries τ (sorted vs)))
entries-sorted τ [] a = tt
entries-sorted τ (v ∷ vs) a =
    rw (← entries-put τ v (sorted vs) (any_sorted v vs ∙ a.0))
    (is_sorted-put variable_cmp variable_total v (τ v) (entries τ (sorted vs)) (entries-sorted τ vs a.1))

find-entries : (τ : Variable → Tree) (v : Variable) (ws : List Variable)
    → find variable_cmp v (entries τ ws) ≡ cond (list_any (is_variable v) ws) (Some (τ v)) None
find-entries τ v [] = refl
find-entries τ v (w ∷ ws) = rw (← is_variable-tied v w) (go (is_variable v w) refl (find-entries τ v ws))
  where
    go : (b : Bool) → is_variable v w ≡ b → find variable_cmp v (entries τ ws) ≡ cond (list_any (is_variable v) ws) (Some (τ v)) None
        → cond b (Some (τ w)) (find variable_cmp v (entries τ ws)) ≡ cond (b || list_any (is_variable v) ws) (Some (τ v)) None
    go true e ih = ap (λ u. Some (τ u)) (sym (same_variable v w e))
    go false e ih = ih

-- ---- a list of bound variables

abbrev variable_at : Bound → Variable
variable_at b = record { number = b.number; sort = b.sort }

abbrev bound_entries : List Bound → List (Variable × Tree)
bound_entries bs = map (λ b. (variable_at b, b.term)) bs

sorted_bounds : (bs : List Bound) → IsStrictlySortedBy bound_cmp bs → T (is_sorted variable_cmp (bound_entries bs))
unfolding IsStrictlySortedBy
sorted_bounds [] s = tt
sorted_bounds (b ∷ bs) s = below (is_sorted variable_cmp (bound_entries bs)) bs s.0 (sorted_bounds bs s.1)
  where
    below : (x : Bool) (cs : List Bound) → AllByRecursion (λ c. bound_cmp b c ≡ Less) cs → T x
        → T (below_all variable_cmp (variable_at b) (bound_entries cs) && x)
    below x [] a h = h
    below x (c ∷ cs) a h = rw a.0 (below x cs a.1 h)

found-find : (bs : List Bound) (v : Variable) → found bs v.number v.sort ≡ find variable_cmp v (bound_entries bs)
found-find [] v = refl
found-find (b ∷ bs) v = rw (is_variable-tied v (variable_at b), found-find bs v) refl

its_own : (o : Option Tree) (t : Tree) → o ≡ cond (is_some o) (Some (unwrap_or o t)) None
its_own None t = refl
its_own (Some u) t = refl

terms_bound : (bs : List Bound) → map (λ b. b.term) bs ≡ map (λ e. e.1) (bound_entries bs)
terms_bound [] = refl
terms_bound (b ∷ bs) = ap (λ ts. b.term ∷ ts) (terms_bound bs)

terms_given : (τ : Variable → Tree) (vs : List Variable) → map (λ e. e.1) (entries τ vs) ≡ map τ vs
terms_given τ [] = refl
terms_given τ (v ∷ vs) = ap (λ ts. τ v ∷ ts) (terms_given τ vs)

-- where exactly these variables are bound, the bound terms in order are what the variables in order are given
pub bound_terms : (bs : List Bound) (vs : List Variable) → IsStrictlySortedBy bound_cmp bs → AreApart vs
    → ((n s : ℕ) → is_some (found bs n s) ≡ list_any (is_variable (record { number = n; sort = s })) vs)
    → map (λ b. b.term) bs ≡ map (λ v. substitution_of bs v.number v.sort) (sorted vs)
bound_terms bs vs s a h =
    let τ : Variable → Tree = λ v. substitution_of bs v.number v.sort in
    let at_each : (v : Variable) → find variable_cmp v (bound_entries bs) ≡ find variable_cmp v (entries τ (sorted vs)) = λ v.
    sym (found-find bs v) ∙ its_own (found bs v.number v.sort) (Var v.number v.sort)
    ∙ ap (λ b. cond b (Some (τ v)) None) (h v.number v.sort ∙ sym (any_sorted v vs)) ∙ sym (find-entries τ v (sorted vs)) in
    terms_bound bs
    ∙ ap (map (λ e. e.1))
    (same_entries variable_cmp variable_total equal_variable (bound_entries bs) (entries τ (sorted vs)) (sorted_bounds bs s) (entries-sorted τ vs a) at_each)
    ∙ terms_given τ (sorted vs)
