-- Variables that are numbered in order, by their sorts alone.
use Rattle.std.proofs.Common.{◌≡◌, ◌≢◌, ◌≤◌, ◌↔◌, ℕ, ◌+◌, zero, suc, List, [], ◌∷◌, ◌++◌, map, length, Bool, true, false, ◌==◌, ◌&&◌, ◌||◌, nat_lt}
use Rattle.std.proofs.Common.{if◌then◌else◌, Some, IsTrue, refl, ap, sym, subst, ◌∙◌, arith, length-append}
use Rattle.std.specs.List.{list_any, slice_get}
use Rattle.std.specs.Bool.{OnTrue}
use Rattle.std.proofs.lemmas.Bool.{eqb-true, eqb-false, eq-eqb, and_parts}
use Rattle.std.proofs.lemmas.Option.{same_Some, slice_get_within}
use Rattle.std.proofs.lemmas.Grind.{common_steps}
use Rattle.circ_term.specs.Tree.{Tree, Trees, Var, App, none, more, size_of, sizes_of}
use Rattle.circ_pairs.specs.declared.goals.Goal.{Goal}
use Rattle.circ_pairs.specs.Pair.{Pair}
use Rattle.circ_pairs.specs.Variables.{Variable, is_variable, seen, seen_in, seen_in_all, seen_in_pairs, AreNumberedFrom, IsInOrder, variables_of, sorts_of}
use Rattle.circ_pairs.specs.Variables.{numbered, is_before, put_in_order, sorted}

pub numbered_are : (k : ℕ) (ss : List ℕ) → AreNumberedFrom k (numbered k ss)
numbered_are k [] = tt
numbered_are k (s ∷ ss) = (refl, numbered_are (k + 1) ss)

pub sorts-numbered : (k : ℕ) (ss : List ℕ) → map (λ v. v.sort) (numbered k ss) ≡ ss
sorts-numbered k [] = refl
sorts-numbered k (s ∷ ss) = ap (λ xs. s ∷ xs) (sorts-numbered (k + 1) ss)

-- variables in order are given back by their sorts
pub numbered-sorts : (k : ℕ) (vs : List Variable) → AreNumberedFrom k vs → numbered k (map (λ v. v.sort) vs) ≡ vs
numbered-sorts k [] h = refl
numbered-sorts k (v ∷ vs) h =
    let here : Variable → List Variable = λ w. w ∷ numbered (k + 1) (map (λ v. v.sort) vs) in
    ap (λ n. here (record { number = n; sort = v.sort })) (sym h.0) ∙ ap (λ ws. v ∷ ws) (numbered-sorts (k + 1) vs h.1)

not_before : (k : ℕ) (v w : Variable) → v.number ≡ k → w.number ≡ k + 1 → is_before w v ≡ false
not_before k v w a b = go (nat_lt w.number v.number) refl (w.number == v.number) refl
  where
    go : (x : Bool) → nat_lt w.number v.number ≡ x → (y : Bool) → (w.number == v.number) ≡ y → is_before w v ≡ false
    go true e y f = absurd (grind (arith, common_steps))
    go false e true f = absurd (let g = eqb-true w.number v.number f in omega arith)
    go false e false f = rw (e, f) refl

-- and stay as they are when they are sorted
pub sorted_in_order : (k : ℕ) (vs : List Variable) → AreNumberedFrom k vs → sorted vs ≡ vs
sorted_in_order k [] h = refl
sorted_in_order k (v ∷ []) h = refl
sorted_in_order k (v ∷ w ∷ ws) h =
    ap (put_in_order v) (sorted_in_order (k + 1) (w ∷ ws) h.1)
    ∙ ap (λ b. if b then w ∷ put_in_order v ws else v ∷ w ∷ ws) (not_before k v w h.0 h.1.0)

-- the variables of a goal in order, sorted, are those of its sorts
pub numbered-sorts_of : (p : Goal) → IsInOrder p → numbered 0 (sorts_of p) ≡ sorted (variables_of p)
numbered-sorts_of p h = numbered-sorts 0 (variables_of p) h ∙ sym (sorted_in_order 0 (variables_of p) h)

pub numbered-push : (k : ℕ) (ss : List ℕ) (s : ℕ) → numbered k (ss ++ s ∷ []) ≡ numbered k ss ++ record { number = k + length ss; sort = s } ∷ []
numbered-push k [] s = let e : k ≡ k + 0 = omega arith in ap (λ n. record { number = n; sort = s } ∷ []) e
numbered-push k (t ∷ ss) s =
    let e : k + 1 + length ss ≡ k + suc (length ss) = omega arith in
    ap (λ vs. record { number = k; sort = t } ∷ vs) (numbered-push (k + 1) ss s ∙ ap (λ n. numbered (k + 1) ss ++ record { number = n; sort = s } ∷ []) e)

front_numbered : (k : ℕ) (vs : List Variable) (v : Variable) → AreNumberedFrom k (vs ++ v ∷ []) → AreNumberedFrom k vs
front_numbered k [] v h = tt
front_numbered k (w ∷ vs) v h = (h.0, front_numbered (k + 1) vs v h.1)

last_number : (k : ℕ) (vs : List Variable) (v : Variable) → AreNumberedFrom k (vs ++ v ∷ []) → v.number ≡ k + length vs
last_number k [] v h = omega arith
last_number k (w ∷ vs) v h = let e = last_number (k + 1) vs v h.1 in omega arith

pub length-numbered : (k : ℕ) (ss : List ℕ) → length (numbered k ss) ≡ length ss
length-numbered k [] = refl
length-numbered k (s ∷ ss) = ap suc (length-numbered (k + 1) ss)

-- what is seen first stays in order
seen_before : (v : Variable) (vs : List Variable) → AreNumberedFrom 0 (seen v vs) → AreNumberedFrom 0 vs
seen_before v vs = go (list_any (is_variable v) vs)
  where
    go : (b : Bool) → AreNumberedFrom 0 (if b then vs else vs ++ v ∷ []) → AreNumberedFrom 0 vs
    go true h = h
    go false h = front_numbered 0 vs v h

mutual
  pub seen_in_before : (t : Tree) (vs : List Variable) → AreNumberedFrom 0 (seen_in t vs) → AreNumberedFrom 0 vs
  seen_in_before (Var n s) vs h = seen_before (record { number = n; sort = s }) vs h
  seen_in_before (App f s ts) vs h = seen_in_all_before ts vs h

  pub seen_in_all_before : (ts : Trees) (vs : List Variable) → AreNumberedFrom 0 (seen_in_all ts vs) → AreNumberedFrom 0 vs
  seen_in_all_before none vs h = h
  seen_in_all_before (more t ts) vs h = seen_in_before t vs (seen_in_all_before ts (seen_in t vs) h)

pub any_there : (k i s : ℕ) (ss : List ℕ) → slice_get ss i ≡ Some s → list_any (is_variable (record { number = k + i; sort = s })) (numbered k ss) ≡ true
any_there k i s [] g = absurd (cc)
any_there k zero s (t ∷ ss) g =
    let a : ((k + 0) == k) ≡ true = eq-eqb (k + 0) k (omega arith) in
    let b : (s == t) ≡ true = eq-eqb s t (sym (same_Some t s g)) in
    rw (a, b) refl
any_there k (suc i) s (t ∷ ss) g =
    let n : k + 1 + i ≡ k + suc i = omega arith in
    let P : ℕ → Type 0 = λ m. list_any (is_variable (record { number = m; sort = s })) (numbered (k + 1) ss) ≡ true in
    go (subst P n (any_there (k + 1) i s ss g)) ((k + suc i == k) && (s == t))
  where
    go : list_any (is_variable (record { number = k + suc i; sort = s })) (numbered (k + 1) ss) ≡ true → (b : Bool)
        → (b || list_any (is_variable (record { number = k + suc i; sort = s })) (numbered (k + 1) ss)) ≡ true
    go rest true = refl
    go rest false = rest

pub any_absent : (k n s : ℕ) (ss : List ℕ) → ((i : ℕ) → n ≡ k + i → slice_get ss i ≡ Some s → ⊥)
    → list_any (is_variable (record { number = n; sort = s })) (numbered k ss) ≡ false
any_absent k n s [] h = refl
any_absent k n s (t ∷ ss) h = go (any_absent (k + 1) n s ss (λ i e g. h (suc i) (omega arith) g)) ((n == k) && (s == t)) refl
  where
    go : list_any (is_variable (record { number = n; sort = s })) (numbered (k + 1) ss) ≡ false → (b : Bool) → ((n == k) && (s == t)) ≡ b
        → (b || list_any (is_variable (record { number = n; sort = s })) (numbered (k + 1) ss)) ≡ false
    go rest true e =
        let parts = and_parts (n == k) (s == t) e in
        let same = eqb-true n k parts.0 in
        absurd (h 0 (omega arith) (ap Some (sym (eqb-true s t parts.1))))
    go rest false e = rest

-- a variable that was seen
pub seen_there : (n s : ℕ) (ss : List ℕ) → slice_get ss n ≡ Some s → seen (record { number = n; sort = s }) (numbered 0 ss) ≡ numbered 0 ss
seen_there n s ss g =
    let z : 0 + n ≡ n = omega arith in
    let P : ℕ → Type 0 = λ m. list_any (is_variable (record { number = m; sort = s })) (numbered 0 ss) ≡ true in
    ap (λ b. if b then numbered 0 ss else numbered 0 ss ++ record { number = n; sort = s } ∷ []) (subst P z (any_there 0 n s ss g))

-- a variable that was not
seen_absent : (n s : ℕ) (ss : List ℕ) → (slice_get ss n ≡ Some s → ⊥)
    → seen (record { number = n; sort = s }) (numbered 0 ss) ≡ numbered 0 ss ++ record { number = n; sort = s } ∷ []
seen_absent n s ss h =
    ap (λ b. if b then numbered 0 ss else numbered 0 ss ++ record { number = n; sort = s } ∷ [])
    (any_absent 0 n s ss (λ i e g. let z : i ≡ n = omega arith in let P : ℕ → Type 0 = λ m. slice_get ss m ≡ Some s in h (subst P z g)))

-- the next new variable
pub seen_next : (n s : ℕ) (ss : List ℕ) → n ≡ length ss → seen (record { number = n; sort = s }) (numbered 0 ss) ≡ numbered 0 (ss ++ s ∷ [])
seen_next n s ss h =
    let e : n ≡ 0 + length ss = omega arith in
    seen_absent n s ss (λ g. let l = slice_get_within ss n s g in absurd (omega arith))
    ∙ ap (λ m. numbered 0 ss ++ record { number = m; sort = s } ∷ []) e ∙ sym (numbered-push 0 ss s)

-- any other is out of order
pub out_of_order : (n s : ℕ) (ss : List ℕ) → n ≢ length ss → (slice_get ss n ≡ Some s → ⊥)
    → AreNumberedFrom 0 (seen (record { number = n; sort = s }) (numbered 0 ss)) → ⊥
out_of_order n s ss other h a =
    let P : List Variable → Type 0 = AreNumberedFrom 0 in
    let e = last_number 0 (numbered 0 ss) (record { number = n; sort = s }) (subst P (seen_absent n s ss h) a) in
    let l = length-numbered 0 ss in
    other (omega arith)

length-seen : (v : Variable) (vs : List Variable) → length (seen v vs) ≤ length vs + 1
length-seen v vs = go (list_any (is_variable v) vs)
  where
    go : (b : Bool) → length (if b then vs else vs ++ v ∷ []) ≤ length vs + 1
    go true = omega arith
    go false = omega (arith, length-append vs (v ∷ []))

-- a term has at most as many variables as nodes
mutual
  pub length-seen_in : (t : Tree) (vs : List Variable) → length (seen_in t vs) ≤ length vs + size_of t
  length-seen_in (Var n s) vs = length-seen (record { number = n; sort = s }) vs
  length-seen_in (App f s ts) vs = omega (arith, length-seen_in_all ts vs)

  pub length-seen_in_all : (ts : Trees) (vs : List Variable) → length (seen_in_all ts vs) ≤ length vs + sizes_of ts
  length-seen_in_all none vs = omega arith
  length-seen_in_all (more t ts) vs = omega (arith, length-seen_in_all ts (seen_in t vs), length-seen_in t vs)

pub seen_in_pairs_before : (ps : List Pair) (vs : List Variable) → AreNumberedFrom 0 (seen_in_pairs ps vs) → AreNumberedFrom 0 vs
seen_in_pairs_before [] vs h = h
seen_in_pairs_before (p ∷ ps) vs h = seen_in_before p.left vs (seen_in_before p.right (seen_in p.left vs) (seen_in_pairs_before ps _ h))

-- a variable whose number was seen is in order where its sort is the one that was seen
pub record Checks (b : Bool) (n s : ℕ) (ss : List ℕ) : Type 0 where
  pub answer : IsTrue b ↔ AreNumberedFrom 0 (seen (record { number = n; sort = s }) (numbered 0 ss))
  pub seen : OnTrue b (numbered 0 ss ≡ seen (record { number = n; sort = s }) (numbered 0 ss))

pub checks_seen : (n s x : ℕ) (ss : List ℕ) → slice_get ss n ≡ Some x → Checks (x == s) n s ss
checks_seen n s x ss g = go (x == s) refl
  where
    go : (b : Bool) → (x == s) ≡ b → Checks b n s ss
    go true e =
        let same : slice_get ss n ≡ Some s = g ∙ ap Some (eqb-true x s e) in
        let P : List Variable → Type 0 = AreNumberedFrom 0 in
        record { answer = ((λ _. subst P (sym (seen_there n s ss same)) (numbered_are 0 ss)), (λ _. refl)); seen = sym (seen_there n s ss same) }
    go false e =
        let l = slice_get_within ss n x g in
        record {
          answer = (
            (λ never. absurd (cc)),
            (λ a. absurd (out_of_order n s ss (omega arith) (λ h. eqb-false x s e (same_Some x s (sym g ∙ h))) a)),
          );
          seen = tt;
        }
