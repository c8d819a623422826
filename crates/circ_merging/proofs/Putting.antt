-- One more entry is put in its place.
use Rattle.std.proofs.Common.{◌≡◌, ◌&&◌, Bool, true, false, cond, List, [], ◌∷◌}
use Rattle.std.proofs.Common.{refl, sym, ap, subst, ◌∙◌, inl, inr}
use Rattle.std.specs.Ordering.{is_lt}
use Rattle.std.specs.List.{dedup, dedup_from}
use Rattle.std.proofs.lemmas.Bool.{cases_Bool}
use Rattle.circ_term.specs.Tree.{Tree}
use Rattle.circ_term.specs.Order.{is_same, comes_before, tree_cmp}
use Rattle.circ_term.proofs.Order.{same_here, tree_same}
use Rattle.circ_theory.specs.Signature.{Operator}
use Rattle.circ_aci.specs.Content.{sorted_terms, put_term, settled}
use Rattle.circ_merging.specs.Put.{put_by, put_in}

-- what is left starts with the first
first_kept : (x : Tree) (xs : List Tree) → (rest : List Tree) × (dedup_from is_same x xs ≡ x ∷ rest)
first_kept x [] = ([], refl)
first_kept x (y ∷ ys) = elim (cases_Bool (is_same y x)) [
  | inl same ↦ rw same (first_kept x ys)
  | inr other ↦ (dedup_from is_same y ys, rw other refl)
]

-- where y doesn't come before x
ahead : (c : Bool) (x y : Tree) (ys : List Tree) → (c && comes_before y x) ≡ false
    → dedup_from is_same x (y ∷ ys) ≡ put_by c true x (dedup_from is_same y ys)
ahead c x y ys e =
    let kept = first_kept y ys in
    rw kept.1 (elim (cases_Bool (is_same y x)) [
      | inl same ↦ rw (e, same) (let P : Tree → Type 0 = λ z. dedup_from is_same z ys ≡ y ∷ kept.0 in subst P (same_here y x same) kept.1)
      | inr other ↦ rw (e, other) refl
    ])

lt_apart : (x y : Tree) → comes_before y x ≡ true → is_same x y ≡ false
lt_apart x y e = elim (cases_Bool (is_same x y)) [
  | inl same ↦
      let P : Tree → Type 0 = λ z. comes_before y z ≡ true in
      absurd (let z = subst P (same_here x y same) e in not_itself y z)
  | inr other ↦ other
]
  where
    not_itself : (y : Tree) → comes_before y y ≡ true → ⊥
    not_itself y e = absurd (let q : is_lt (tree_cmp y y) ≡ false = ap is_lt (tree_same y) in let z : true ≡ false = sym e ∙ q in cc)

-- where y comes before x
behind : (x y : Tree) (ys : List Tree) → comes_before y x ≡ true
    → dedup_from is_same y (put_term x ys) ≡ put_by true true x (dedup_from is_same y ys)
behind x y [] e = rw (e, lt_apart x y e) refl
behind x y (z ∷ zs) e = elim (cases_Bool (is_same z y)) [
  | inl same ↦
      let P : Tree → Type 0 = λ w. comes_before w x ≡ true in
      rw (subst P (sym (same_here z y same)) e, same) (behind x y zs e)
  | inr other ↦ elim (cases_Bool (comes_before z x)) [
    | inl before ↦ rw (before, other, e) (ap (λ ws. y ∷ ws) (behind x z zs before))
    | inr after ↦ rw (after, other, e, lt_apart x y e) (ap (λ ws. y ∷ ws) (ahead true x z zs after))
  ]
]

put_dropped : (x : Tree) (xs : List Tree) → dedup is_same (put_term x xs) ≡ put_by true true x (dedup is_same xs)
put_dropped x [] = refl
put_dropped x (y ∷ ys) = elim (cases_Bool (comes_before y x)) [
  | inl before ↦ rw before (behind x y ys before)
  | inr after ↦ rw after (ahead true x y ys after)
]

put_same : (x : Tree) (xs : List Tree) → put_term x xs ≡ put_by true false x xs
put_same x [] = refl
put_same x (y ∷ ys) = elim (cases_Bool (comes_before y x)) [
  | inl before ↦ rw before (ap (λ zs. y ∷ zs) (put_same x ys))
  | inr after ↦ rw after refl
]

put_dropped_in_place : (x : Tree) (xs : List Tree) → dedup is_same (x ∷ xs) ≡ put_by false true x (dedup is_same xs)
put_dropped_in_place x [] = refl
put_dropped_in_place x (y ∷ ys) = ahead false x y ys refl

put_first : (x : Tree) (xs : List Tree) → x ∷ xs ≡ put_by false false x xs
put_first x [] = refl
put_first x (y ∷ ys) = refl

pub one_more : (o : Operator) (x : Tree) (xs : List Tree) → settled o (x ∷ xs) ≡ put_in o x (settled o xs)
one_more o x xs = by o.comm o.idem
  where
    settle : Bool → Bool → List Tree → List Tree
    settle c i ys = cond i (dedup is_same (cond c (sorted_terms ys) ys)) (cond c (sorted_terms ys) ys)

    by : (c i : Bool) → settle c i (x ∷ xs) ≡ put_by c i x (settle c i xs)
    by true true = put_dropped x (sorted_terms xs)
    by true false = put_same x (sorted_terms xs)
    by false true = put_dropped_in_place x xs
    by false false = put_first x xs
