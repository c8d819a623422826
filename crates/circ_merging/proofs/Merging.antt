-- Two settled lists are merged by one walk.
use Rattle.std.proofs.Common.{◌≡◌, ◌+◌, ◌&&◌, Bool, true, false, cond, List, [], ◌∷◌, ◌++◌, refl, sym, ap, subst, ◌∙◌, arith, inl, inr}
use Rattle.std.specs.List.{dedup}
use Rattle.std.proofs.lemmas.Bool.{cases_Bool, and_parts}
use Rattle.circ_term.specs.Tree.{Tree}
use Rattle.circ_term.specs.Order.{is_same, comes_before}
use Rattle.circ_term.proofs.Order.{ranks, same_here, same_itself, same_place}
use Rattle.circ_theory.specs.Signature.{Operator}
use Rattle.circ_aci.specs.Content.{sorted_terms, settled}
use Rattle.circ_aci.proofs.Settled.{Rises, sorted_rises, same_list, one, ones, ones-sorted}
use Rattle.circ_aci.proofs.Rows.{Differs, Rows, rows_settled, settled_rows}
use Rattle.circ_merging.specs.Put.{put_by, put_in, merge_by, append_by, merged}
use Rattle.circ_merging.proofs.Putting.{one_more}

-- ---- the order

-- y comes before x, and z doesn't: y comes before z
before_all : (y x z : Tree) → comes_before y x ≡ true → comes_before z x ≡ false → comes_before y z ≡ true
before_all y x z e n = elim (cases_Bool (comes_before y z)) [
  | inl b ↦ b
  | inr b ↦ absurd (let w = ranks.chain y z x b n in cc)
]

-- what may stand behind y and isn't y comes behind it
behind_it : (y z : Tree) → comes_before z y ≡ false → is_same z y ≡ false → comes_before y z ≡ true
behind_it y z n d = elim (cases_Bool (comes_before y z)) [
  | inl b ↦ b
  | inr b ↦ absurd (let s = same_place z y n b in let P : Tree → Type 0 = λ w. is_same w y ≡ false in let z = subst P s d in let w = same_itself y in cc)
]

rises_rest : (x : Tree) (xs : List Tree) → Rises (x ∷ xs) → Rises xs
rises_rest x [] r = tt
rises_rest x (y ∷ ys) r = r.1

differs_rest : (i : Bool) (x : Tree) (xs : List Tree) → (i ≡ true → Differs (x ∷ xs)) → i ≡ true → Differs xs
differs_rest i x [] d e = tt
differs_rest i x (y ∷ ys) d e = (d e).1

-- ---- sorted lists

-- what comes before all of xs comes first
merge_before : (i : Bool) (x : Tree) (xs : List Tree) (y : Tree) (ys : List Tree) → Rises (x ∷ xs) → comes_before y x ≡ true
    → merge_by i xs (y ∷ ys) ≡ y ∷ merge_by i xs ys
merge_before i x [] y ys r e = refl
merge_before i x (z ∷ zs) y ys r e = rw (before_all y x z e r.0) refl

-- the same where y is x
merge_same : (i : Bool) (x : Tree) (xs : List Tree) (y : Tree) (ys : List Tree) → Rises (x ∷ xs) → Differs (x ∷ xs) → is_same y x ≡ true
    → merge_by i xs (y ∷ ys) ≡ y ∷ merge_by i xs ys
merge_same i x [] y ys r d e = refl
merge_same i x (z ∷ zs) y ys r d e =
    let P : Tree → Type 0 = λ w. comes_before w z ≡ true in
    rw (subst P (sym (same_here y x e)) (behind_it x z r.0 d.0)) refl

-- the first of the merged list is y or the first of xs
put_first : (i : Bool) (x : Tree) (xs : List Tree) (y : Tree) (ys : List Tree)
    → Rises (x ∷ xs) → (i ≡ true → Differs (x ∷ xs)) → comes_before y x ≡ false → (i && is_same y x) ≡ false
    → put_by true i x (merge_by i xs (y ∷ ys)) ≡ x ∷ merge_by i xs (y ∷ ys)
put_first i x [] y ys r d n s = rw (n, s) refl
put_first i x (z ∷ zs) y ys r d n s = elim (cases_Bool (comes_before y z)) [
  | inl before ↦ rw (before, n, s) refl
  | inr after ↦ elim (cases_Bool (i && is_same y z)) [
    | inl same ↦
        let both = and_parts i (is_same y z) same in
        let first = merge_same i z zs y ys r.1 (d both.0).1 both.1 in
        rw (after, same, first, n, s) refl
    | inr other ↦ rw (after, other, r.0, apart i z d) refl
  ]
]
  where
    apart : (j : Bool) (z : Tree) → (j ≡ true → Differs (x ∷ z ∷ zs)) → (j && is_same z x) ≡ false
    apart true z d = (d refl).0
    apart false z d = refl

-- one more at the front of the first list
merge_more : (i : Bool) (x : Tree) (xs ys : List Tree) → Rises (x ∷ xs) → (i ≡ true → Differs (x ∷ xs))
    → put_by true i x (merge_by i xs ys) ≡ merge_by i (x ∷ xs) ys
merge_more i x xs [] r d = alone xs r d
  where
    rest_only : (zs : List Tree) → merge_by i zs [] ≡ zs
    rest_only [] = refl
    rest_only (z ∷ zs) = refl

    apart : (j : Bool) (z : Tree) (zs : List Tree) → (j ≡ true → Differs (x ∷ z ∷ zs)) → (j && is_same z x) ≡ false
    apart true z zs d = (d refl).0
    apart false z zs d = refl

    alone : (zs : List Tree) → Rises (x ∷ zs) → (i ≡ true → Differs (x ∷ zs)) → put_by true i x (merge_by i zs []) ≡ x ∷ zs
    alone [] r d = refl
    alone (z ∷ zs) r d = rw (r.0, apart i z zs d) refl
merge_more i x xs (y ∷ ys) r d = elim (cases_Bool (comes_before y x)) [
  | inl before ↦ rw (before, merge_before i x xs y ys r before, before) (ap (λ zs. y ∷ zs) (merge_more i x xs ys r d))
  | inr after ↦ elim (cases_Bool (i && is_same y x)) [
    | inl same ↦
        let both = and_parts i (is_same y x) same in
        let first = merge_same i x xs y ys r (d both.0) both.1 in
        rw (after, same, first, after, same) refl
    | inr other ↦ rw (after, other) (put_first i x xs y ys r d after other)
  ]
]

-- ---- both

merged_more : (o : Operator) (x : Tree) (xs ys : List Tree) → Rows o (x ∷ xs) → put_in o x (merged o xs ys) ≡ merged o (x ∷ xs) ys
merged_more o x xs ys r = by o.comm o.idem r.0 r.1
  where
    by : (c i : Bool) → (c ≡ true → Rises (x ∷ xs)) → (i ≡ true → Differs (x ∷ xs))
        → put_by c i x (cond c (merge_by i xs ys) (append_by i xs ys)) ≡ cond c (merge_by i (x ∷ xs) ys) (append_by i (x ∷ xs) ys)
    by true i p q = merge_more i x xs ys (p refl) q
    by false i p q = refl

merged_none : (o : Operator) (ys : List Tree) → merged o [] ys ≡ ys
merged_none o ys = by o.comm
  where
    by : (c : Bool) → cond c (merge_by o.idem [] ys) (append_by o.idem [] ys) ≡ ys
    by true = refl
    by false = refl

rows_tail : (o : Operator) (x : Tree) (xs : List Tree) → Rows o (x ∷ xs) → Rows o xs
rows_tail o x xs r = ((λ c. rises_rest x xs (r.0 c)), (λ i. differs_rest o.idem x xs r.1 i))

-- two settled lists are settled as one by merging them
pub merge_settles : (o : Operator) (xs : List Tree) (y : Tree) (ys : List Tree) → Rows o xs → Rows o (y ∷ ys)
    → settled o (xs ++ y ∷ ys) ≡ merged o xs (y ∷ ys)
merge_settles o [] y ys r q = rows_settled o y ys q ∙ sym (merged_none o (y ∷ ys))
merge_settles o (x ∷ xs) y ys r q =
    one_more o x (xs ++ y ∷ ys)
    ∙ ap (put_in o x) (merge_settles o xs y ys (rows_tail o x xs r) q)
    ∙ merged_more o x xs (y ∷ ys) r

-- a list that settles to itself is a row
pub settled_is_row : (o : Operator) (x : Tree) (xs : List Tree) → settled o (x ∷ xs) ≡ x ∷ xs → Rows o (x ∷ xs)
settled_is_row o x xs e = let P : List Tree → Type 0 = Rows o in subst P e (settled_rows o x xs)

pub two_lists : (o : Operator) (x y : Tree) (xs ys : List Tree) → settled o (x ∷ xs) ≡ x ∷ xs → settled o (y ∷ ys) ≡ y ∷ ys
    → settled o ((x ∷ xs) ++ (y ∷ ys)) ≡ merged o (x ∷ xs) (y ∷ ys)
two_lists o x y xs ys e d = merge_settles o (x ∷ xs) y ys (settled_is_row o x xs e) (settled_is_row o y ys d)

-- ---- one more at the end

sorted_around : (x : Tree) (xs : List Tree) → sorted_terms (xs ++ x ∷ []) ≡ sorted_terms (x ∷ xs)
sorted_around x xs =
    same_list (sorted_terms (xs ++ x ∷ [])) (sorted_terms (x ∷ xs)) (sorted_rises (xs ++ x ∷ [])) (sorted_rises (x ∷ xs))
    (λ y. ones-sorted y (xs ++ x ∷ []) ∙ ones-around y xs ∙ sym (ones-sorted y (x ∷ xs)))
  where
    ones-around : (y : Tree) (ys : List Tree) → ones y (ys ++ x ∷ []) ≡ one y x + ones y ys
    ones-around y [] = refl
    ones-around y (z ∷ zs) = omega (arith, ones-around y zs)

pub one_at_the_end : (o : Operator) (x : Tree) (xs : List Tree) → o.comm ≡ true → settled o (xs ++ x ∷ []) ≡ put_in o x (settled o xs)
one_at_the_end o x xs c = by o.comm o.idem c ∙ one_more o x xs
  where
    settle : Bool → Bool → List Tree → List Tree
    settle c i ys = cond i (dedup is_same (cond c (sorted_terms ys) ys)) (cond c (sorted_terms ys) ys)

    by : (c i : Bool) → c ≡ true → settle c i (xs ++ x ∷ []) ≡ settle c i (x ∷ xs)
    by true true e = ap (dedup is_same) (sorted_around x xs)
    by true false e = sorted_around x xs
    by false i e = absurd (cc)
