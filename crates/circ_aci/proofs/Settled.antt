-- Sorting terms, and dropping repetitions.
use Rattle.std.proofs.Common.{◌≡◌, ℕ, ◌+◌, ◌<◌, Bool, true, false, cond, List, [], ◌∷◌, ◌++◌, suc, refl, sym, ap, subst, ◌∙◌}
use Rattle.std.proofs.Common.{arith, inl, inr}
use Rattle.std.specs.List.{AllByRecursion, dedup, dedup_from, sum_by}
use Rattle.std.specs.List.Sorted.{IsPermutation, IsSortedBy}
use Rattle.std.specs.Ordering.{is_lt}
use Rattle.std.proofs.lemmas.Bool.{cases_Bool}
use Rattle.std.proofs.lemmas.List.Sorted.{sum_by-IsPermutation}
use Rattle.std.proofs.lemmas.List.Sums.{sum_by-cons}
use Rattle.circ_term.specs.Tree.{Tree}
use Rattle.circ_term.specs.Order.{is_same, comes_before}
use Rattle.circ_term.proofs.Order.{ranks, tree_same, same_here, same_itself, same_place}
use Rattle.circ_theory.specs.Signature.{Operator}
use Rattle.circ_aci.specs.Content.{put_term, sorted_terms, settled}

-- no term comes before its neighbour to the left
abbrev pub Rises : List Tree → Type 0
Rises [] = Unit {0}
Rises (x ∷ []) = Unit {0}
Rises (x ∷ y ∷ ys) = (comes_before y x ≡ false) × Rises (y ∷ ys)

rises_tail : (x : Tree) (xs : List Tree) → Rises (x ∷ xs) → Rises xs
rises_tail x [] r = tt
rises_tail x (y ∷ ys) r = r.1

-- ---- sorting

mutual
  put_rises : (x : Tree) (ys : List Tree) → Rises ys → Rises (put_term x ys)
  put_rises x [] r = tt
  put_rises x (y ∷ ys) r = elim (cases_Bool (comes_before y x)) [
    | inl before ↦ rw before (put_behind x y ys (ranks.one_way y x before) r)
    | inr after ↦ rw after (after, r)
  ]

  put_behind : (x y : Tree) (ys : List Tree) → comes_before x y ≡ false → Rises (y ∷ ys) → Rises (y ∷ put_term x ys)
  put_behind x y [] e r = (e, tt)
  put_behind x y (z ∷ zs) e r = elim (cases_Bool (comes_before z x)) [
    | inl before ↦ rw before (r.0, put_behind x z zs (ranks.one_way z x before) r.1)
    | inr after ↦ rw after (e, (after, r.1))
  ]

pub sorted_rises : (xs : List Tree) → Rises (sorted_terms xs)
sorted_rises [] = tt
sorted_rises (x ∷ xs) = put_rises x (sorted_terms xs) (sorted_rises xs)

-- a sorted list stays as it is
pub sorted_same : (xs : List Tree) → Rises xs → sorted_terms xs ≡ xs
sorted_same [] r = refl
sorted_same (x ∷ []) r = refl
sorted_same (x ∷ y ∷ ys) r = ap (put_term x) (sorted_same (y ∷ ys) r.1) ∙ rw r.0 refl

-- ---- how often a term stands in a list

abbrev pub one : Tree → Tree → ℕ
one x y = cond (is_same x y) 1 0

abbrev pub ones : Tree → List Tree → ℕ
ones x [] = 0
ones x (y ∷ ys) = one x y + ones x ys

ones-put : (x y : Tree) (ys : List Tree) → ones x (put_term y ys) ≡ one x y + ones x ys
ones-put x y [] = refl
ones-put x y (z ∷ zs) = elim (cases_Bool (comes_before z y)) [
  | inl before ↦ rw before (omega (arith, ones-put x y zs))
  | inr after ↦ rw after refl
]

pub ones-sorted : (x : Tree) (xs : List Tree) → ones x (sorted_terms xs) ≡ ones x xs
ones-sorted x [] = refl
ones-sorted x (y ∷ ys) = ones-put x y (sorted_terms ys) ∙ ap (λ n. one x y + n) (ones-sorted x ys)

one_itself : (x : Tree) → one x x ≡ 1
one_itself x = rw (same_itself x) refl

-- no term of a list that rises comes before its first
same_first : (y z : Tree) → is_same y z ≡ true → comes_before y z ≡ false
same_first y z same = ap (λ x. comes_before x z) (same_here y z same) ∙ ap is_lt (tree_same z)

first_least : (y z : Tree) (zs : List Tree) → Rises (z ∷ zs) → 0 < ones y (z ∷ zs) → comes_before y z ≡ false
first_least y z [] r h = elim (cases_Bool (is_same y z)) [
  | inl same ↦ same_first y z same
  | inr other ↦ let n : 0 < 0 + 0 = rw other at h in absurd (omega (arith, n))
]
first_least y z (w ∷ ws) r h = elim (cases_Bool (is_same y z)) [
  | inl same ↦ same_first y z same
  | inr other ↦ let n : 0 < 0 + ones y (w ∷ ws) = rw other at h in ranks.chain y w z (first_least y w ws r.1 (omega (arith, n))) r.0
]

-- lists that rise, with the same terms, are the same
pub same_list : (ys zs : List Tree) → Rises ys → Rises zs → ((x : Tree) → ones x ys ≡ ones x zs) → ys ≡ zs
same_list [] [] r q e = refl
same_list [] (z ∷ zs) r q e = absurd (omega (arith, e z, one_itself z))
same_list (y ∷ ys) [] r q e = absurd (omega (arith, e y, one_itself y))
same_list (y ∷ ys) (z ∷ zs) r q e =
    let first : y ≡ z =
    same_place y z (first_least y z zs q (omega (arith, e y, one_itself y))) (first_least z y ys r (omega (arith, e z, one_itself z))) in
    let P : Tree → Type 0 = λ w. (x : Tree) → one x w + ones x ys ≡ one x z + ones x zs in
    let f : (x : Tree) → one x z + ones x ys ≡ one x z + ones x zs = subst P first e in
    let rest : ys ≡ zs = same_list ys zs (rises_tail y ys r) (rises_tail z zs q) (λ x. omega (arith, f x)) in
    ap (λ w. w ∷ ys) first ∙ ap (λ ws. z ∷ ws) rest

ones-sum : (x : Tree) (xs : List Tree) → ones x xs ≡ sum_by (one x) xs
ones-sum x [] = refl
ones-sum x (y ∷ ys) = ap (λ n. one x y + n) (ones-sum x ys) ∙ sym (sum_by-cons (one x) y ys)

rises_from_sorted : (xs : List Tree) → IsSortedBy comes_before xs → Rises xs
rises_from_sorted [] s = tt
rises_from_sorted (x ∷ []) s = tt
rises_from_sorted (x ∷ y ∷ ys) s = (
  s 0 x (omega arith) (omega arith),
  rises_from_sorted (y ∷ ys) (λ k d l h. let e : suc k + 1 ≡ suc (k + 1) = omega arith in rw e at (s (suc k) d (omega arith) (omega (arith, h)))),
)

-- a sorted list of the same terms is `sorted_terms`
pub sorted_is : (xs ys : List Tree) → IsPermutation xs ys → IsSortedBy comes_before ys → ys ≡ sorted_terms xs
sorted_is xs ys p s =
    same_list ys (sorted_terms xs) (rises_from_sorted ys s) (sorted_rises xs)
    (λ x. ones-sum x ys ∙ sum_by-IsPermutation (one x) xs ys p ∙ sym (ones-sum x xs) ∙ sym (ones-sorted x xs))

-- ---- dropping repetitions

pub drop_rises : (x : Tree) (xs : List Tree) → Rises (x ∷ xs) → Rises (dedup_from is_same x xs)
drop_rises x [] r = tt
drop_rises x (y ∷ ys) r = elim (cases_Bool (is_same y x)) [
  | inl same ↦ rw same (drop_rises x ys (let P : Tree → Type 0 = λ z. Rises (z ∷ ys) in subst P (same_here y x same) r.1))
  | inr other ↦ rw other (drop_behind x y ys r.0 (drop_rises y ys r.1))
]
  where
    drop_behind : (x y : Tree) (ys : List Tree) → comes_before y x ≡ false → Rises (dedup_from is_same y ys) → Rises (x ∷ dedup_from is_same y ys)
    drop_behind x y [] e r = (e, r)
    drop_behind x y (z ∷ zs) e r = elim (cases_Bool (is_same z y)) [
      | inl same ↦ rw same (drop_behind x y zs e (rw same at r))
      | inr other ↦ rw other (e, rw other at r)
    ]

-- dropping again drops nothing
drop_again : (x : Tree) (xs : List Tree) → dedup is_same (dedup_from is_same x xs) ≡ dedup_from is_same x xs
drop_again x [] = refl
drop_again x (y ∷ ys) = elim (cases_Bool (is_same y x)) [
  | inl same ↦ rw same (drop_again x ys)
  | inr other ↦ rw other (behind x y ys other (drop_again y ys))
]
  where
    behind : (x y : Tree) (ys : List Tree) → is_same y x ≡ false → dedup is_same (dedup_from is_same y ys) ≡ dedup_from is_same y ys
        → dedup_from is_same x (dedup_from is_same y ys) ≡ x ∷ dedup_from is_same y ys
    behind x y [] e h = rw e refl
    behind x y (z ∷ zs) e h = elim (cases_Bool (is_same z y)) [
      | inl same ↦ rw same (behind x y zs e (rw same at h))
      | inr other ↦ rw (other, e) (ap (λ ws. x ∷ ws) (rw other at h))
    ]

-- ---- what holds of each term

pub all_put : (P : Tree → Type 0) (x : Tree) (ys : List Tree) → P x → AllByRecursion P ys → AllByRecursion P (put_term x ys)
all_put P x [] p a = (p, tt)
all_put P x (y ∷ ys) p a = elim (cases_Bool (comes_before y x)) [
  | inl before ↦ rw before (a.0, all_put P x ys p a.1)
  | inr after ↦ rw after (p, a)
]

pub all_sorted : (P : Tree → Type 0) (xs : List Tree) → AllByRecursion P xs → AllByRecursion P (sorted_terms xs)
all_sorted P [] a = tt
all_sorted P (x ∷ xs) a = all_put P x (sorted_terms xs) a.0 (all_sorted P xs a.1)

pub all_drop : (P : Tree → Type 0) (x : Tree) (xs : List Tree) → P x → AllByRecursion P xs → AllByRecursion P (dedup_from is_same x xs)
all_drop P x [] p a = (p, tt)
all_drop P x (y ∷ ys) p a = elim (cases_Bool (is_same y x)) [
  | inl same ↦ rw same (all_drop P x ys p a.1)
  | inr other ↦ rw other (p, all_drop P y ys a.0 a.1)
]

pub all_append : (P : Tree → Type 0) (xs ys : List Tree) → AllByRecursion P xs → AllByRecursion P ys → AllByRecursion P (xs ++ ys)
all_append P [] ys a b = b
all_append P (x ∷ xs) ys a b = (a.0, all_append P xs ys a.1 b)

-- ---- lists that are not empty

abbrev pub IsSome : List Tree → Type 0
IsSome [] = ⊥
IsSome (x ∷ xs) = Unit {0}

pub some_put : (x : Tree) (ys : List Tree) → IsSome (put_term x ys)
some_put x [] = tt
some_put x (y ∷ ys) = elim (cases_Bool (comes_before y x)) [
  | inl before ↦ rw before tt
  | inr after ↦ rw after tt
]

pub some_drop : (x : Tree) (xs : List Tree) → IsSome (dedup_from is_same x xs)
some_drop x [] = tt
some_drop x (y ∷ ys) = elim (cases_Bool (is_same y x)) [
  | inl same ↦ rw same (some_drop x ys)
  | inr other ↦ rw other tt
]

-- ---- settling a list that is not empty

-- what holds of a list before it is settled, and stays so when it is sorted and when repetitions are dropped, holds of the settled list
pub settled_by : (P : List Tree → Type 0) (o : Operator) (x : Tree) (xs : List Tree)
    → (o.comm ≡ true → P (x ∷ xs) → P (sorted_terms (x ∷ xs)))
    → (o.idem ≡ true → (y : Tree) (ys : List Tree) → P (y ∷ ys) → P (dedup_from is_same y ys))
    → P (x ∷ xs) → P (settled o (x ∷ xs))
settled_by P o x xs s d p = both o.comm o.idem s d
  where
    drop_put : (i : Bool) → (i ≡ true → (y : Tree) (ys : List Tree) → P (y ∷ ys) → P (dedup_from is_same y ys))
        → (ys : List Tree) → IsSome ys → P ys → P (cond i (dedup is_same ys) ys)
    drop_put true d ys n q = dropped ys n q
      where
        dropped : (zs : List Tree) → IsSome zs → P zs → P (dedup is_same zs)
        dropped [] n q = absurd n
        dropped (z ∷ zs) n q = d refl z zs q
    drop_put false d ys n q = q

    both : (c i : Bool) → (c ≡ true → P (x ∷ xs) → P (sorted_terms (x ∷ xs)))
        → (i ≡ true → (y : Tree) (ys : List Tree) → P (y ∷ ys) → P (dedup_from is_same y ys))
        → P (cond i (dedup is_same (cond c (sorted_terms (x ∷ xs)) (x ∷ xs))) (cond c (sorted_terms (x ∷ xs)) (x ∷ xs)))
    both true i s d = drop_put i d (sorted_terms (x ∷ xs)) (some_put x (sorted_terms xs)) (s refl p)
    both false i s d = drop_put i d (x ∷ xs) tt p

pub settled_some : (o : Operator) (x : Tree) (xs : List Tree) → IsSome (settled o (x ∷ xs))
settled_some o x xs = settled_by IsSome o x xs (λ e p. some_put x (sorted_terms xs)) (λ e y ys p. some_drop y ys) tt

pub all_settled : (P : Tree → Type 0) (o : Operator) (x : Tree) (xs : List Tree)
    → AllByRecursion P (x ∷ xs) → AllByRecursion P (settled o (x ∷ xs))
all_settled P o x xs a = settled_by (AllByRecursion P) o x xs (λ e p. all_sorted P (x ∷ xs) p) (λ e y ys p. all_drop P y ys p.0 p.1) a

-- a list settles once
pub settled_again : (o : Operator) (x : Tree) (xs : List Tree) → settled o (settled o (x ∷ xs)) ≡ settled o (x ∷ xs)
settled_again o x xs = again o.comm o.idem
  where
    settle : Bool → Bool → List Tree → List Tree
    settle c i ys = cond i (dedup is_same (cond c (sorted_terms ys) ys)) (cond c (sorted_terms ys) ys)

    dropped : (ys : List Tree) → Rises ys → dedup is_same (sorted_terms (dedup is_same ys)) ≡ dedup is_same ys
    dropped [] r = refl
    dropped (y ∷ ys) r = ap (dedup is_same) (sorted_same (dedup_from is_same y ys) (drop_rises y ys r)) ∙ drop_again y ys

    again : (c i : Bool) → settle c i (settle c i (x ∷ xs)) ≡ settle c i (x ∷ xs)
    again true true = dropped (sorted_terms (x ∷ xs)) (sorted_rises (x ∷ xs))
    again true false = sorted_same (sorted_terms (x ∷ xs)) (sorted_rises (x ∷ xs))
    again false true = drop_again x xs
    again false false = refl
