-- The variables that are gathered in order are those of the goal, sorted.
use Rattle.std.proofs.Common.{◌≡◌, Bool, true, false, ◌==◌, if◌then◌else◌, List, [], ◌∷◌, ◌++◌, map, refl, ap, sym, subst, ◌∙◌, arith}
use Rattle.std.proofs.Common.{Ordering, Less, Equal, Greater}
use Rattle.std.specs.List.{list_any}
use Rattle.std.specs.Ordering.{nat_cmp, ordering_reverse, match_ordering, is_gt, is_eq}
use Rattle.std.specs.Cmp.{IsTotalOrder, unsigned_ties, both_tied}
use Rattle.std.specs.BTreeSet.{insert_key}
use Rattle.std.proofs.lemmas.Cmp.{nat_cmp_total, then_total, on_total, tied_itself, tied_back, alike_right}
use Rattle.std.proofs.lemmas.Bool.{eqb-true, and_parts}
use Rattle.std.proofs.lemmas.Bool.Decides.{nat_tests}
use Rattle.circ_term.specs.Tree.{Tree, Trees, Var, App, none, more, is_ground, are_ground}
use Rattle.circ_theory.specs.Theory.{Pair}
use Rattle.circ_theory.specs.Variables.{Variable, is_variable, is_before, put_in_order, sorted, seen, seen_in, seen_in_all, seen_in_pairs}
use Rattle.circ_replay.specs.Gathering.{variable_cmp, gathered, gathered_all, gathered_pairs}

-- ---- the order of variables

pub variable_total : IsTotalOrder variable_cmp
variable_total = then_total (on_total (λ (v : Variable). v.number) nat_cmp_total) (on_total (λ (v : Variable). v.sort) nat_cmp_total)

before_tells : (v w : Variable) → is_before w v ≡ is_gt (variable_cmp v w)
before_tells v w = grind (arith, nat_tests)

pub variable_tells : (v w : Variable) → is_variable v w ≡ is_eq (variable_cmp v w)
variable_tells v w = both_tied _ _ (nat_cmp v.number w.number) (nat_cmp v.sort w.sort) (unsigned_ties v.number w.number) (unsigned_ties v.sort w.sort)

same_variable : (v w : Variable) → is_variable v w ≡ true → v ≡ w
same_variable v w e =
    let both = and_parts (v.number == w.number) (v.sort == w.sort) e in
    ap (λ n. record v { number = n }) (eqb-true v.number w.number both.0) ∙ ap (λ s. record w { sort = s }) (eqb-true v.sort w.sort both.1)

apart : (v w : Variable) → is_variable v w ≡ false → variable_cmp v w ≡ Equal → ⊥
apart v w e f = let z = sym e ∙ variable_tells v w ∙ ap is_eq f in absurd (cc)

flipped : (v w : Variable) (o : Ordering) → variable_cmp v w ≡ o → variable_cmp w v ≡ ordering_reverse o
flipped v w o e = variable_total.antisymm w v ∙ ap ordering_reverse e

-- ---- placing and entering

-- put in order, by the comparison
abbrev placed : Variable → List Variable → List Variable
placed v [] = v ∷ []
placed v (w ∷ ws) = match_ordering (variable_cmp v w) (v ∷ w ∷ ws) (v ∷ w ∷ ws) (w ∷ placed v ws)

put_placed : (v : Variable) (ws : List Variable) → put_in_order v ws ≡ placed v ws
put_placed v [] = refl
put_placed v (w ∷ ws) = ap (λ b. if b then w ∷ put_in_order v ws else v ∷ w ∷ ws) (before_tells v w) ∙ go (put_placed v ws) (variable_cmp v w)
  where
    go : put_in_order v ws ≡ placed v ws → (o : Ordering)
        → (if is_gt o then w ∷ put_in_order v ws else v ∷ w ∷ ws) ≡ match_ordering o (v ∷ w ∷ ws) (v ∷ w ∷ ws) (w ∷ placed v ws)
    go ih Less = refl
    go ih Equal = refl
    go ih Greater = ap (λ us. w ∷ us) ih

abbrev entered : Variable → List Variable → List Variable
entered v ws = insert_key variable_cmp ws v

-- what was placed is there
enter_placed : (v : Variable) (ws : List Variable) → entered v (placed v ws) ≡ placed v ws
enter_placed v [] = rw (tied_itself variable_total v) refl
enter_placed v (w ∷ ws) = go (variable_cmp v w) refl (enter_placed v ws)
  where
    go : (o : Ordering) → variable_cmp v w ≡ o → entered v (placed v ws) ≡ placed v ws
        → entered v (match_ordering o (v ∷ w ∷ ws) (v ∷ w ∷ ws) (w ∷ placed v ws)) ≡ match_ordering o (v ∷ w ∷ ws) (v ∷ w ∷ ws) (w ∷ placed v ws)
    go Less e ih = rw (tied_itself variable_total v) refl
    go Equal e ih = rw (tied_itself variable_total v) refl
    go Greater e ih = rw e (ap (λ us. w ∷ us) ih)

-- two different variables go to their places in any order
swapped : (v w : Variable) → (variable_cmp v w ≡ Equal → ⊥) → (us : List Variable) → entered v (placed w us) ≡ placed w (entered v us)
swapped v w d [] = go (variable_cmp v w) refl
  where
    go : (o : Ordering) → variable_cmp v w ≡ o → entered v (w ∷ []) ≡ placed w (v ∷ [])
    go Less e = rw (e, flipped v w Less e) refl
    go Equal e = absurd (d e)
    go Greater e = rw (e, flipped v w Greater e) refl
swapped v w d (u ∷ us) = go (variable_cmp v u) (variable_cmp w u) (variable_cmp v w) refl refl refl (swapped v w d us)
  where
    o : IsTotalOrder variable_cmp
    o = variable_total

    go : (a b c : Ordering) → variable_cmp v u ≡ a → variable_cmp w u ≡ b → variable_cmp v w ≡ c → entered v (placed w us) ≡ placed w (entered v us)
        → entered v (match_ordering b (w ∷ u ∷ us) (w ∷ u ∷ us) (u ∷ placed w us)) ≡ placed w (match_ordering a (v ∷ u ∷ us) (u ∷ us) (u ∷ entered v us))
    go a b Equal p q r ih = absurd (d r)
    go Less Less Less p q r ih = rw (r, flipped v w Less r, q) refl
    go Less Less Greater p q r ih = rw (r, flipped v w Greater r, p) refl
    go Less Equal Less p q r ih = rw (r, flipped v w Less r, q) refl
    go Less Equal Greater p q r ih = rw (r, flipped v w Greater r, p) refl
    go Less Greater Less p q r ih = rw (p, flipped v w Less r, q) refl
    go Less Greater Greater p q r ih = absurd (let z = o.trans v u w p (flipped w u Greater q) in cc)
    go Equal Less Less p q r ih = absurd (let z = o.congr v u w p in let y = flipped w u Less q in cc)
    go Equal Less Greater p q r ih = rw (r, p, q) refl
    go Equal Equal c p q r ih = absurd (d (o.congr v u w p ∙ tied_back o w u q))
    go Equal Greater c p q r ih = rw (p, q) refl
    go Greater Less Less p q r ih = absurd (let z = o.trans v w u r q in cc)
    go Greater Less Greater p q r ih = rw (r, p, q) refl
    go Greater Equal Less p q r ih = absurd (let z = alike_right o w u v q in cc)
    go Greater Equal Greater p q r ih = rw (r, p, q) refl
    go Greater Greater c p q r ih = rw (p, q) (ap (λ ws. u ∷ ws) ih)

-- ---- sorted variables

sorted_next : (v : Variable) (vs : List Variable) → sorted (v ∷ vs) ≡ placed v (sorted vs)
sorted_next v vs = put_placed v (sorted vs)

entered_again : (v : Variable) (vs : List Variable) → list_any (is_variable v) vs ≡ true → entered v (sorted vs) ≡ sorted vs
entered_again v [] e = absurd (cc)
entered_again v (w ∷ vs) e =
    ap (entered v) (sorted_next w vs) ∙ go (is_variable v w) refl (λ h. entered_again v vs h) ∙ sym (sorted_next w vs)
  where
    go : (b : Bool) → is_variable v w ≡ b → (list_any (is_variable v) vs ≡ true → entered v (sorted vs) ≡ sorted vs)
        → entered v (placed w (sorted vs)) ≡ placed w (sorted vs)
    go true f ih =
        let P : Variable → Type 0 = λ x. entered v (placed x (sorted vs)) ≡ placed x (sorted vs) in
        subst P (same_variable v w f) (enter_placed v (sorted vs))
    go false f ih = swapped v w (apart v w f) (sorted vs) ∙ ap (placed w) (ih (rw f at e))

entered_new : (v : Variable) (vs : List Variable) → list_any (is_variable v) vs ≡ false → entered v (sorted vs) ≡ sorted (vs ++ v ∷ [])
entered_new v [] e = refl
entered_new v (w ∷ vs) e =
    ap (entered v) (sorted_next w vs) ∙ go (is_variable v w) refl (λ h. entered_new v vs h) ∙ sym (sorted_next w (vs ++ v ∷ []))
  where
    go : (b : Bool) → is_variable v w ≡ b → (list_any (is_variable v) vs ≡ false → entered v (sorted vs) ≡ sorted (vs ++ v ∷ []))
        → entered v (placed w (sorted vs)) ≡ placed w (sorted (vs ++ v ∷ []))
    go true f ih = absurd (let z = rw f at e in cc)
    go false f ih = swapped v w (apart v w f) (sorted vs) ∙ ap (placed w) (ih (rw f at e))

-- a variable that is entered is one that is seen
entered_seen : (v : Variable) (vs : List Variable) → entered v (sorted vs) ≡ sorted (seen v vs)
entered_seen v vs = go (list_any (is_variable v) vs) refl
  where
    go : (b : Bool) → list_any (is_variable v) vs ≡ b → entered v (sorted vs) ≡ sorted (if b then vs else vs ++ v ∷ [])
    go true e = entered_again v vs e
    go false e = entered_new v vs e

mutual
  pub gathered_seen : (t : Tree) (vs : List Variable) → gathered t (sorted vs) ≡ sorted (seen_in t vs)
  gathered_seen (Var n s) vs = entered_seen (record { number = n; sort = s }) vs
  gathered_seen (App f s ts) vs = gathered_all_seen ts vs

  pub gathered_all_seen : (ts : Trees) (vs : List Variable) → gathered_all ts (sorted vs) ≡ sorted (seen_in_all ts vs)
  gathered_all_seen none vs = refl
  gathered_all_seen (more t ts) vs = ap (gathered_all ts) (gathered_seen t vs) ∙ gathered_all_seen ts (seen_in t vs)

pub gathered_pairs_seen : (ps : List Pair) (vs : List Variable) → gathered_pairs ps (sorted vs) ≡ sorted (seen_in_pairs ps vs)
gathered_pairs_seen [] vs = refl
gathered_pairs_seen (p ∷ ps) vs =
    ap (λ us. gathered_pairs ps (gathered p.right us)) (gathered_seen p.left vs)
    ∙ ap (gathered_pairs ps) (gathered_seen p.right (seen_in p.left vs)) ∙ gathered_pairs_seen ps (seen_in p.right (seen_in p.left vs))

-- a term with no variable has none to gather
mutual
  pub gathered_ground : (t : Tree) (vs : List Variable) → is_ground t ≡ true → gathered t vs ≡ vs
  gathered_ground (Var n s) vs e = absurd (cc)
  gathered_ground (App f s ts) vs e = gathered_all_ground ts vs e

  gathered_all_ground : (ts : Trees) (vs : List Variable) → are_ground ts ≡ true → gathered_all ts vs ≡ vs
  gathered_all_ground none vs e = refl
  gathered_all_ground (more t ts) vs e =
      let both = and_parts (is_ground t) (are_ground ts) e in
      ap (gathered_all ts) (gathered_ground t vs both.0) ∙ gathered_all_ground ts vs both.1
