-- Readings that were found, one more.
use Rattle.std.proofs.Common.{◌≡◌, ◌⊎◌, ◌∙◌, ◌+◌, ◌<◌, ℕ, List, [], ◌∷◌, drop, length, get_or, Bool, Ordering, Equal, Greater, inl, inr, sym, ap, subst, refl}
use Rattle.std.proofs.lemmas.List.{drop_more}
use Rattle.circ_term.specs.Tree.{Tree, trees_of, list_of, sort_of}
use Rattle.circ_term.proofs.Trees.{list_of-trees_of}
use Rattle.circ_term.specs.Order.{trees_cmp}
use Rattle.circ_chart.specs.Few.{Enough, Differ, Or}
use Rattle.circ_chart.proofs.Sets.{enough_all, enough_chain, enough_step}
use Rattle.circ_chart.specs.Tops.{Among}
use Rattle.circ_mixfix.specs.declared.few.Reading.{Reading}
use Rattle.circ_mixfix.specs.declared.few.Few.{Few}
use Rattle.circ_mixfix.specs.declared.few.Few.TheVariants.{Empty, One, Two}
use Rattle.circ_mixfix.specs.Found.{In, AreOrdered, IsTwo, KeepsReadings, OneRead, RightRead, BothRead}
use Rattle.circ_mixfix.specs.Numbering.{numbered_anew}
use Rattle.circ_mixfix.proofs.Order.{trees_equal, trees_apart, trees_less}

abbrev pub Same : Reading → List Tree → Type 0
Same r ts = ts ≡ r.terms.items

same_list : (ts us : List Tree) → trees_of ts ≡ trees_of us → ts ≡ us
same_list ts us e = sym (list_of-trees_of ts) ∙ ap list_of e ∙ list_of-trees_of us

-- how the lists of two readings compare
cmp_of : (a r : Reading) (xs ys : List Tree) (o : Ordering) → xs ≡ a.terms.items → ys ≡ r.terms.items → o ≡ trees_cmp (trees_of xs) (trees_of ys) → trees_cmp (trees_of a.terms.items) (trees_of r.terms.items) ≡ o
cmp_of a r xs ys o p q e = ap (λ x. trees_cmp (trees_of x) (trees_of r.terms.items)) (sym p) ∙ ap (λ y. trees_cmp (trees_of xs) (trees_of y)) (sym q) ∙ sym e

pub same_again : (a r : Reading) (xs ys : List Tree) → xs ≡ a.terms.items → ys ≡ r.terms.items → Equal ≡ trees_cmp (trees_of xs) (trees_of ys) → KeepsReadings (One a) (Or (In (One a)) (Same r))
same_again a r xs ys p q f = record { enough = enough_all (In (One a)) (Or (In (One a)) (Same r)) (λ ts h. inl h) back; ordered = tt }
  where
    back : (ts : List Tree) → Or (In (One a)) (Same r) ts → In (One a) ts
    back ts (inl h) = h
    back ts (inr h) = h ∙ sym (same_list a.terms.items r.terms.items (trees_equal (trees_of a.terms.items) (trees_of r.terms.items) (cmp_of a r xs ys Equal p q f)))

pub one_before : (a r : Reading) (xs ys : List Tree) → xs ≡ a.terms.items → ys ≡ r.terms.items → Greater ≡ trees_cmp (trees_of xs) (trees_of ys) → KeepsReadings (Two r a) (Or (In (One a)) (Same r))
one_before a r xs ys p q f = record { enough = enough_all (In (Two r a)) (Or (In (One a)) (Same r)) (turned r a) (turned a r); ordered = trees_less (trees_of a.terms.items) (trees_of r.terms.items) (cmp_of a r xs ys Greater p q f) }
  where
    turned : (x y : Reading) (ts : List Tree) → Or (Same x) (Same y) ts → Or (Same y) (Same x) ts
    turned x y ts (inl h) = inr h
    turned x y ts (inr h) = inl h

-- two are enough
pub enough_two : (found : Few) (P : List Tree → Type 0) → IsTwo found → AreOrdered found → KeepsReadings found (Or (In found) P)
enough_two Empty P t o = absurd t
enough_two (One a) P t o = absurd t
enough_two (Two a b) P t o = record { enough = record { sound = λ ts h. inl h; enough = more_of }; ordered = o }
  where
    two : Differ (In (Two a b))
    two = record {
      first = a.terms.items;
      second = b.terms.items;
      in_first = inl refl;
      in_second = inr refl;
      apart = λ q. trees_apart (trees_of a.terms.items) (trees_of b.terms.items) o (ap trees_of q);
    }

    more_of : (ts : List Tree) → Or (In (Two a b)) P ts → In (Two a b) ts ⊎ Differ (In (Two a b))
    more_of ts h = inr two

-- nothing more
pub keeps_same : (found : Few) (P : List Tree → Type 0) → AreOrdered found → ((ts : List Tree) → P ts → ⊥) → KeepsReadings found (Or (In found) P)
keeps_same found P o none = record { enough = enough_all (In found) (Or (In found) P) (λ ts h. inl h) back; ordered = o }
  where
    back : (ts : List Tree) → Or (In found) P ts → In found ts
    back ts (inl h) = h
    back ts (inr h) = absurd (none ts h)

pub keeps_through : (found : Few) (P Q : List Tree → Type 0) → KeepsReadings found P → ((ts : List Tree) → P ts → Q ts) → ((ts : List Tree) → Q ts → P ts) → KeepsReadings found Q
keeps_through found P Q k f g = record { enough = enough_chain (In found) P Q k.enough (enough_all P Q f g); ordered = k.ordered }

-- the only right term
pub one_right : (left right : Tree) (ts : List Tree) → RightRead left (right ∷ []) ts → (sort_of right ≡ sort_of left) × (ts ≡ left ∷ right ∷ [])
one_right left right ts h = go h.listed
  where
    go : Among (right ∷ []) h.right → (sort_of right ≡ sort_of left) × (ts ≡ left ∷ right ∷ [])
    go (inl q) = (ap sort_of (sym q) ∙ h.same_sort, h.is ∙ ap (λ x. left ∷ x ∷ []) q)
    go (inr z) = absurd z

pub right_one : (left right : Tree) (ts : List Tree) → sort_of right ≡ sort_of left → ts ≡ left ∷ right ∷ [] → RightRead left (right ∷ []) ts
right_one left right ts s e = record { right = right; listed = inl refl; same_sort = s; is = e }

-- a list's first item by itself
one_split : (hole : Bool) (t : Tree) (us : List Tree) (ts : List Tree) → OneRead hole (t ∷ us) ts → Or (λ xs. xs ≡ numbered_anew hole t ∷ []) (OneRead hole us) ts
one_split hole t us ts h = go h.has
  where
    go : Among (t ∷ us) h.from → Or (λ xs. xs ≡ numbered_anew hole t ∷ []) (OneRead hole us) ts
    go (inl q) = inl (h.is ∙ ap (λ x. numbered_anew hole x ∷ []) q)
    go (inr m) = inr (record { from = h.from; has = m; is = h.is })

one_joined : (hole : Bool) (t : Tree) (us : List Tree) (ts : List Tree) → Or (λ xs. xs ≡ numbered_anew hole t ∷ []) (OneRead hole us) ts → OneRead hole (t ∷ us) ts
one_joined hole t us ts (inl e) = record { from = t; has = inl refl; is = e }
one_joined hole t us ts (inr h) = record { from = h.from; has = inr h.has; is = h.is }

right_split : (left t : Tree) (us : List Tree) (ts : List Tree) → RightRead left (t ∷ us) ts → Or (RightRead left (t ∷ [])) (RightRead left us) ts
right_split left t us ts h = go h.listed
  where
    go : Among (t ∷ us) h.right → Or (RightRead left (t ∷ [])) (RightRead left us) ts
    go (inl q) = inl (record { right = h.right; listed = inl q; same_sort = h.same_sort; is = h.is })
    go (inr m) = inr (record { right = h.right; listed = m; same_sort = h.same_sort; is = h.is })

right_joined : (left t : Tree) (us : List Tree) (ts : List Tree) → Or (RightRead left (t ∷ [])) (RightRead left us) ts → RightRead left (t ∷ us) ts
right_joined left t us ts (inl h) = go h.listed
  where
    go : Among (t ∷ []) h.right → RightRead left (t ∷ us) ts
    go (inl q) = record { right = h.right; listed = inl q; same_sort = h.same_sort; is = h.is }
    go (inr z) = absurd z
right_joined left t us ts (inr h) = record { right = h.right; listed = inr h.listed; same_sort = h.same_sort; is = h.is }

both_split : (t : Tree) (us rights : List Tree) (ts : List Tree) → BothRead (t ∷ us) rights ts → Or (RightRead t rights) (BothRead us rights) ts
both_split t us rights ts h = go h.listed
  where
    P : Tree → Type 0
    P x = RightRead x rights ts

    go : Among (t ∷ us) h.left → Or (RightRead t rights) (BothRead us rights) ts
    go (inl q) = inl (subst P q h.with_right)
    go (inr m) = inr (record { left = h.left; listed = m; with_right = h.with_right })

both_joined : (t : Tree) (us rights : List Tree) (ts : List Tree) → Or (RightRead t rights) (BothRead us rights) ts → BothRead (t ∷ us) rights ts
both_joined t us rights ts (inl h) = record { left = t; listed = inl refl; with_right = h }
both_joined t us rights ts (inr h) = record { left = h.left; listed = inr h.listed; with_right = h.with_right }

-- A loop's step: its item is put into what was found, out of the items that are still to come.
step : (old new : Few) (H A R P : List Tree → Type 0) → Enough (Or (In old) A) P → ((ts : List Tree) → A ts → Or H R ts) → ((ts : List Tree) → Or H R ts → A ts) → KeepsReadings new (Or (In old) H)
    → Enough (Or (In new) R) P
step old new H A R P all split join k =
    enough_step (In old) (In new) H R P (enough_chain (Or (In old) (Or H R)) (Or (In old) A) P (enough_all (Or (In old) (Or H R)) (Or (In old) A) there back) all) k.enough
  where
    there : (ts : List Tree) → Or (In old) (Or H R) ts → Or (In old) A ts
    there ts (inl h) = inl h
    there ts (inr h) = inr (join ts h)

    back : (ts : List Tree) → Or (In old) A ts → Or (In old) (Or H R) ts
    back ts (inl h) = inl h
    back ts (inr h) = inr (split ts h)

pub one_step : (old new : Few) (hole : Bool) (t : Tree) (us all : List Tree) → Enough (Or (In old) (OneRead hole (t ∷ us))) (OneRead hole all) → KeepsReadings new (Or (In old) (λ xs. xs ≡ numbered_anew hole t ∷ []))
    → Enough (Or (In new) (OneRead hole us)) (OneRead hole all)
one_step old new hole t us all e k = step old new (λ xs. xs ≡ numbered_anew hole t ∷ []) (OneRead hole (t ∷ us)) (OneRead hole us) (OneRead hole all) e (one_split hole t us) (one_joined hole t us) k

pub right_step : (old new : Few) (left t : Tree) (us : List Tree) (P : List Tree → Type 0) → Enough (Or (In old) (RightRead left (t ∷ us))) P → KeepsReadings new (Or (In old) (RightRead left (t ∷ [])))
    → Enough (Or (In new) (RightRead left us)) P
right_step old new left t us P e k = step old new (RightRead left (t ∷ [])) (RightRead left (t ∷ us)) (RightRead left us) P e (right_split left t us) (right_joined left t us) k

pub both_step : (old new : Few) (t : Tree) (us rights : List Tree) (P : List Tree → Type 0) → Enough (Or (In old) (BothRead (t ∷ us) rights)) P → KeepsReadings new (Or (In old) (RightRead t rights))
    → Enough (Or (In new) (BothRead us rights)) P
both_step old new t us rights P e k = step old new (RightRead t rights) (BothRead (t ∷ us) rights) (BothRead us rights) P e (both_split t us rights) (both_joined t us rights) k

-- an item that is read is the first of those that are left
pub drop_read : {X : Type 0} (xs : List X) (i : ℕ) (x : X) → i < length xs → x ≡ get_or xs i x → drop i xs ≡ x ∷ drop (i + 1) xs
drop_read xs i x l e = drop_more xs i x l ∙ ap (λ y. y ∷ drop (i + 1) xs) (sym e)

-- the ends of the loops
pub begun : (P : List Tree → Type 0) → Enough (Or (In Empty) P) P
begun P = enough_all (Or (In Empty) P) P there (λ ts h. inr h)
  where
    there : (ts : List Tree) → Or (In Empty) P ts → P ts
    there ts (inl h) = absurd h
    there ts (inr h) = h

pub ended : (found : Few) (A P : List Tree → Type 0) → ((ts : List Tree) → A ts → ⊥) → Enough (Or (In found) A) P → AreOrdered found → KeepsReadings found P
ended found A P none e o = record { enough = enough_chain (In found) (Or (In found) A) P (enough_all (In found) (Or (In found) A) (λ ts h. inl h) back) e; ordered = o }
  where
    back : (ts : List Tree) → Or (In found) A ts → In found ts
    back ts (inl h) = h
    back ts (inr h) = absurd (none ts h)

pub no_one : (hole : Bool) (ts : List Tree) → OneRead hole [] ts → ⊥
no_one hole ts h = h.has

pub no_right : (left : Tree) (ts : List Tree) → RightRead left [] ts → ⊥
no_right left ts h = h.listed

pub no_both : (rights ts : List Tree) → BothRead [] rights ts → ⊥
no_both rights ts h = h.listed

-- the pair of the only right term
pub keeps_right : (found new : Few) (left right : Tree) (r : Reading) → sort_of right ≡ sort_of left → r.terms.items ≡ left ∷ right ∷ [] → KeepsReadings new (Or (In found) (Same r))
    → KeepsReadings new (Or (In found) (RightRead left (right ∷ [])))
keeps_right found new left right r s e k = keeps_through new (Or (In found) (Same r)) (Or (In found) (RightRead left (right ∷ []))) k there back
  where
    there : (ts : List Tree) → Or (In found) (Same r) ts → Or (In found) (RightRead left (right ∷ [])) ts
    there ts (inl h) = inl h
    there ts (inr h) = inr (right_one left right ts s (h ∙ e))

    back : (ts : List Tree) → Or (In found) (RightRead left (right ∷ [])) ts → Or (In found) (Same r) ts
    back ts (inl h) = inl h
    back ts (inr h) = inr ((one_right left right ts h).1 ∙ sym e)
