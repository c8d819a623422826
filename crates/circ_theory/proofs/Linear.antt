-- Terms in which each parameter occurs once.
use Rattle.std.proofs.Common.{◌≡◌, ◌≤◌, ℕ, Bool, true, false, ◌==◌, ◌||◌, ◌&&◌, not, nat_eq, if◌then◌else◌, List, [], ◌∷◌, ◌++◌, map, length, None}
use Rattle.std.proofs.Common.{refl, ap, sym, subst, ◌∙◌, arith, append_assoc, append-nil, length-append}
use Rattle.std.specs.List.{AllByRecursion, IsDistinct, list_any, filter}
use Rattle.std.proofs.lemmas.Bool.{eqb-true, eq-eqb}
use Rattle.std.proofs.lemmas.List.{map-append}
use Rattle.std.proofs.lemmas.List.Elements.{filter-append}
use Rattle.std.proofs.lemmas.List.Folds.{list_any-append}
use Rattle.circ_term.specs.Tree.{Tree, Trees, Var, App, none, more, size_of, sizes_of}
use Rattle.circ_theory.specs.Signature.{Signature, IsSort, IsWellSorted, HaveSorts}
use Rattle.circ_pairs.specs.Variables.{Variable, is_variable, seen, occurrences, all_occurrences, AreNumberedFrom}
use Rattle.circ_pairs.specs.Slots.{is_hole, is_parameter, holes_in, parameters_in, first_repeated, AreParametersInOrder}
use Rattle.circ_theory.specs.Observing.{first_or_zero}
use Rattle.circ_pairs.proofs.Ruling.{all_seen, seen-occurrences}

-- no item stands again
pub record IsOnce (n : ℕ) (ns : List ℕ) : Type 0 where
  pub here : list_any (nat_eq n) ns ≡ false
  pub rest : first_repeated ns ≡ None

pub once : (n : ℕ) (ns : List ℕ) → first_repeated (n ∷ ns) ≡ None → IsOnce n ns
once n ns e = go (list_any (nat_eq n) ns) refl
  where
    go : (b : Bool) → list_any (nat_eq n) ns ≡ b → IsOnce n ns
    go true f = absurd (let z = rw f at e in cc)
    go false f = record { here = f; rest = rw f at e }

none_same : (n : ℕ) (ns : List ℕ) → list_any (nat_eq n) ns ≡ false → AllByRecursion (λ m. nat_eq n m ≡ false) ns
none_same n [] e = tt
none_same n (m ∷ ns) e = go (n == m) refl (λ h. none_same n ns h)
  where
    go : (b : Bool) → (n == m) ≡ b → (list_any (nat_eq n) ns ≡ false → AllByRecursion (λ m. nat_eq n m ≡ false) ns)
        → (nat_eq n m ≡ false) × AllByRecursion (λ m. nat_eq n m ≡ false) ns
    go true f ih = absurd (let z = rw f at e in cc)
    go false f ih = (f, ih (rw f at e))

-- then all are different
pub distinct_by : (ns : List ℕ) → first_repeated ns ≡ None → IsDistinct nat_eq ns
unfolding IsDistinct
distinct_by [] e = tt
distinct_by (n ∷ ns) e = let o = once n ns e in (none_same n ns o.here, distinct_by ns o.rest)

-- what stands in the first stands not in the second
abbrev Apart : List ℕ → List ℕ → Type 0
Apart ns ks = (m : ℕ) → list_any (nat_eq m) ns ≡ true → list_any (nat_eq m) ks ≡ false

-- the numbers of the parameters
abbrev numbers : List Variable → List ℕ
numbers vs = map (λ v. v.number) (filter is_parameter vs)

not_seen : (v : Variable) (us : List Variable) → is_parameter v ≡ true → list_any (nat_eq v.number) (numbers us) ≡ false → list_any (is_variable v) us ≡ false
not_seen v [] p e = refl
not_seen v (u ∷ us) p e = go (λ h. not_seen v us p h) (v.number == u.number) refl (is_parameter u) refl
  where
    go : (list_any (nat_eq v.number) (numbers us) ≡ false → list_any (is_variable v) us ≡ false) → (b : Bool) → (v.number == u.number) ≡ b
        → (q : Bool) → is_parameter u ≡ q
        → ((v.number == u.number) && (v.sort == u.sort) || list_any (is_variable v) us) ≡ false
    go ih true f true g = absurd (let z = rw (g, f) at e in cc)
    go ih true f false g = absurd (let same : is_parameter v ≡ is_parameter u = ap (λ n. not (n == 0)) (eqb-true v.number u.number f) in let z = sym p ∙ same ∙ g in cc)
    go ih false f true g = rw f (ih (rw (g, f) at e))
    go ih false f false g = rw f (ih (rw g at e))

hole_seen : (v : Variable) (us : List Variable) → is_parameter v ≡ false → filter is_parameter (seen v us) ≡ filter is_parameter us
hole_seen v us p = go (list_any (is_variable v) us)
  where
    go : (b : Bool) → filter is_parameter (if b then us else us ++ v ∷ []) ≡ filter is_parameter us
    go true = refl
    go false = filter-append is_parameter us (v ∷ []) ∙ rw p (append-nil (filter is_parameter us))

parameter_seen : (v : Variable) (us : List Variable) → is_parameter v ≡ true → list_any (is_variable v) us ≡ false
    → filter is_parameter (seen v us) ≡ filter is_parameter us ++ v ∷ []
parameter_seen v us p h = rw h (filter-append is_parameter us (v ∷ []) ∙ rw p refl)

apart_push : (n : ℕ) (ns ks : List ℕ) → list_any (nat_eq n) ns ≡ false → Apart (n ∷ ns) ks → Apart ns (ks ++ n ∷ [])
apart_push n ns ks h a m there = list_any-append (nat_eq m) ks (n ∷ []) ∙ go (m == n) refl (a m)
  where
    go : (b : Bool) → (m == n) ≡ b → (list_any (nat_eq m) (n ∷ ns) ≡ true → list_any (nat_eq m) ks ≡ false)
        → (list_any (nat_eq m) ks || ((m == n) || false)) ≡ false
    go true f k = absurd (let z = sym there ∙ ap (λ x. list_any (nat_eq x) ns) (eqb-true m n f) ∙ h in cc)
    go false f k = let ks_none : list_any (nat_eq m) ks ≡ false = k (rw f there) in rw (f, ks_none) refl

-- where no parameter occurs again, those seen are those that occur
each_once : (vs us : List Variable) → first_repeated (numbers vs) ≡ None → Apart (numbers vs) (numbers us)
    → filter is_parameter (all_seen vs us) ≡ filter is_parameter us ++ filter is_parameter vs
each_once [] us e a = sym (append-nil (filter is_parameter us))
each_once (v ∷ vs) us e a = go (is_parameter v) refl (λ us. each_once vs us)
  where
    go : (b : Bool) → is_parameter v ≡ b
        → ((us : List Variable) → first_repeated (numbers vs) ≡ None → Apart (numbers vs) (numbers us) → filter is_parameter (all_seen vs us) ≡ filter is_parameter us ++ filter is_parameter vs)
        → filter is_parameter (all_seen vs (seen v us)) ≡ filter is_parameter us ++ (if is_parameter v then v ∷ filter is_parameter vs else filter is_parameter vs)
    go true p ih =
        let o = once v.number (numbers vs) (rw p at e) in
        let a : Apart (v.number ∷ numbers vs) (numbers us) = rw p at a in
        let first : list_any (nat_eq v.number) (v.number ∷ numbers vs) ≡ true = let z = eq-eqb v.number v.number refl in rw z refl in
        let added = parameter_seen v us p (not_seen v us p (a v.number first)) in
        let P : List Variable → Type 0 = λ ws. Apart (numbers vs) (map (λ v. v.number) ws) in
        let pushed = map-append (λ v. v.number) (filter is_parameter us) (v ∷ []) in
        let Q : List ℕ → Type 0 = Apart (numbers vs) in
        rw p (ih (seen v us) o.rest (subst P (sym added) (subst Q (sym pushed) (apart_push v.number (numbers vs) (numbers us) o.here a)))
        ∙ ap (λ ws. ws ++ filter is_parameter vs) added ∙ append_assoc (filter is_parameter us) (v ∷ []) (filter is_parameter vs))
    go false p ih =
        let same = hole_seen v us p in
        let P : List Variable → Type 0 = λ ws. Apart (numbers vs) (map (λ v. v.number) ws) in
        rw p (ih (seen v us) (rw p at e) (subst P (sym same) (rw p at a)) ∙ ap (λ ws. ws ++ filter is_parameter vs) same)

pub numbered_once : (t : Tree) → AreParametersInOrder t → first_repeated (parameters_in t) ≡ None → AreNumberedFrom 1 (filter is_parameter (occurrences t))
numbered_once t order e =
    let P : List Variable → Type 0 = AreNumberedFrom 1 in
    subst P (ap (filter is_parameter) (seen-occurrences t []) ∙ each_once (occurrences t) [] e (λ m h. refl)) order

pub one_item : (ns : List ℕ) → length ns ≡ 1 → ns ≡ first_or_zero ns ∷ []
one_item [] e = absurd (omega arith)
one_item (n ∷ []) e = refl
one_item (n ∷ m ∷ ns) e = absurd (omega arith)

all_append : {X : Type 0} (P : X → Type 0) (xs ys : List X) → AllByRecursion P xs → AllByRecursion P ys → AllByRecursion P (xs ++ ys)
all_append P [] ys a b = b
all_append P (x ∷ xs) ys a b = (a.0, all_append P xs ys a.1 b)

-- the sorts of a term's variables exist
mutual
  sorts_occur : (sig : Signature) (t : Tree) → IsWellSorted sig t → AllByRecursion (λ v. IsSort sig v.sort) (occurrences t)
  sorts_occur sig (Var n s) h = (h, tt)
  sorts_occur sig (App f s ts) h = all_sorts_occur sig ts h.0.args h.3

  all_sorts_occur : (sig : Signature) (ts : Trees) (ss : List ℕ) → HaveSorts sig ts ss → AllByRecursion (λ v. IsSort sig v.sort) (all_occurrences ts)
  all_sorts_occur sig none ss h = tt
  all_sorts_occur sig (more t ts) [] h = absurd h
  all_sorts_occur sig (more t ts) (s ∷ ss) h = all_append (λ v. IsSort sig v.sort) (occurrences t) (all_occurrences ts) (sorts_occur sig t h.1) (all_sorts_occur sig ts ss h.2)

picked_sorts : (sig : Signature) (vs : List Variable) → AllByRecursion (λ v. IsSort sig v.sort) vs
    → AllByRecursion (IsSort sig) (map (λ v. v.sort) (filter is_hole vs))
picked_sorts sig [] a = tt
picked_sorts sig (v ∷ vs) a = go (is_hole v) (picked_sorts sig vs a.1)
  where
    go : (b : Bool) → AllByRecursion (IsSort sig) (map (λ v. v.sort) (filter is_hole vs))
        → AllByRecursion (IsSort sig) (map (λ v. v.sort) (if b then v ∷ filter is_hole vs else filter is_hole vs))
    go true r = (a.0, r)
    go false r = r

pub hole_sorted : (sig : Signature) (t : Tree) → IsWellSorted sig t → length (holes_in t) ≡ 1 → IsSort sig (first_or_zero (holes_in t))
hole_sorted sig t h e = let P : List ℕ → Type 0 = AllByRecursion (IsSort sig) in (subst P (one_item (holes_in t) e) (picked_sorts sig (occurrences t) (sorts_occur sig t h))).0

-- a term has at most as many holes as nodes
mutual
  few_occur : (t : Tree) → length (occurrences t) ≤ size_of t
  few_occur (Var n s) = omega arith
  few_occur (App f s ts) = omega (arith, all_few_occur ts)

  all_few_occur : (ts : Trees) → length (all_occurrences ts) ≤ sizes_of ts
  all_few_occur none = omega arith
  all_few_occur (more t ts) = omega (arith, length-append (occurrences t) (all_occurrences ts), few_occur t, all_few_occur ts)

few_picked : (vs : List Variable) → length (map (λ v. v.sort) (filter is_hole vs)) ≤ length vs
few_picked [] = omega arith
few_picked (v ∷ vs) = go (is_hole v) (few_picked vs)
  where
    go : (b : Bool) → length (map (λ v. v.sort) (filter is_hole vs)) ≤ length vs
        → length (map (λ v. v.sort) (if b then v ∷ filter is_hole vs else filter is_hole vs)) ≤ length (v ∷ vs)
    go true r = omega arith
    go false r = omega arith

pub few_holes : (t : Tree) → length (holes_in t) ≤ size_of t
few_holes t = omega (arith, few_picked (occurrences t), few_occur t)
