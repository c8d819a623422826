-- One more term put at its place in a row.
use Rattle.std.proofs.Common.{◌≡◌, ℕ, zero, suc, ◌-◌, ◌≤◌, ◌<◌, ◌&&◌, Bool, true, false, cond, List, [], ◌∷◌, ◌++◌, None, length, take, drop, get_or, refl, ap, sym, subst, ◌∙◌, append_assoc, arith, inl, inr}
use Rattle.std.specs.List.Sorted.{IsPartitionedBy, IsPartitionPoint}
use Rattle.std.proofs.lemmas.Bool.{cases_Bool}
use Rattle.circ_term.specs.Tree.{Tree}
use Rattle.circ_term.specs.Order.{is_same, comes_before}
use Rattle.circ_term.proofs.Order.{ranks}
use Rattle.circ_theory.specs.Signature.{Operator}
use Rattle.circ_aci.specs.Content.{leaves, sorted_terms}
use Rattle.circ_aci.specs.Operands.{operands}
use Rattle.circ_aci.specs.Row.{first_in, is_row}
use Rattle.circ_aci.proofs.Finding.{leaves_leaf}
use Rattle.circ_aci.proofs.Rows.{in_row, row_alone, rows_settled}
use Rattle.circ_aci.proofs.Settled.{Rises, sorted_rises, sorted_same}
use Rattle.circ_merging.specs.Put.{put_by, put_in, merge_by, append_by, merged}
use Rattle.circ_merging.proofs.Merging.{merge_settles, one_at_the_end}
use Rattle.circ_nodes.specs.Named.{tree_at}
use Rattle.circ_forms.specs.Named.{trees_at, AreThere}
use Rattle.circ_forms.specs.Taking.{IsRow, Takes, place_in}
use Rattle.circ_forms.proofs.Folded.{trees_push}
use Rattle.circ_forms.proofs.Ordered.{map_drop}

-- ---- a row and one more term are merged by putting the term in

merge_alone : (i : Bool) (x : Tree) (ys : List Tree) → merge_by i (x ∷ []) ys ≡ put_by true i x ys
merge_alone i x [] = refl
merge_alone i x (y ∷ ys) = elim (cases_Bool (comes_before y x)) [
  | inl before ↦ rw before (ap (λ zs. y ∷ zs) (merge_alone i x ys))
  | inr after ↦ elim (cases_Bool (i && is_same y x)) [
    | inl same ↦ rw (after, same) refl
    | inr other ↦ rw (after, other) refl
  ]
]

pub first_alone : (o : Operator) (f : ℕ) (a b : Tree) → o.comm ≡ true → operands f a ≡ None
    → merged o (leaves f a) (leaves f b) ≡ put_in o a (leaves f b)
first_alone o f a b c n = ap (λ xs. merged o xs (leaves f b)) (leaves_leaf f a n) ∙ by o.comm c
  where
    by : (d : Bool) → d ≡ true → cond d (merge_by o.idem (a ∷ []) (leaves f b)) (append_by o.idem (a ∷ []) (leaves f b)) ≡ put_by d o.idem a (leaves f b)
    by true e = merge_alone o.idem a (leaves f b)
    by false e = absurd (cc)

pub second_alone : (o : Operator) (f : ℕ) (a b : Tree) → o.comm ≡ true → is_row o f a ≡ true → operands f b ≡ None
    → merged o (leaves f a) (leaves f b) ≡ put_in o b (leaves f a)
second_alone o f a b c e n =
    let r = in_row o f a e in
    let row = first_in f a ∷ r.rest in
    ap (merged o (leaves f a)) (leaves_leaf f b n)
    ∙ ap (λ xs. merged o xs (b ∷ [])) r.starts
    ∙ sym (merge_settles o row b [] r.rows ((λ d. tt), (λ i. tt)))
    ∙ one_at_the_end o b row c
    ∙ ap (put_in o b) (rows_settled o (first_in f a) r.rest r.rows ∙ sym r.starts)

-- ---- the place

rises_rest : (nodes : List Tree) (x : Tree) (ns : List ℕ) → Rises (x ∷ trees_at nodes ns) → Rises (trees_at nodes ns)
rises_rest nodes x [] r = tt
rises_rest nodes x (n ∷ ns) r = r.1

-- no term of a list that rises comes before an earlier one
rises_far : (nodes : List Tree) (x : Tree) (ns : List ℕ) → Rises (x ∷ trees_at nodes ns) → (j d : ℕ) → j < length ns
    → comes_before (tree_at nodes (get_or ns j d)) x ≡ false
rises_far nodes x [] r j d h = absurd (omega (arith, h))
rises_far nodes x (n ∷ ns) r zero d h = r.0
rises_far nodes x (n ∷ ns) r (suc j) d h =
    ranks.chain (tree_at nodes (get_or ns j d)) (tree_at nodes n) x (rises_far nodes (tree_at nodes n) ns r.1 j d (omega (arith, h))) r.0

parted : (nodes : List Tree) (x : Tree) (ns : List ℕ) → Rises (trees_at nodes ns) → IsPartitionedBy (λ n. comes_before (tree_at nodes n) x) ns
parted nodes x [] r i j d le lt e = absurd (omega (arith, lt))
parted nodes x (n ∷ ns) r zero zero d le lt e = e
parted nodes x (n ∷ ns) r zero (suc j) d le lt e = elim (cases_Bool (comes_before (tree_at nodes n) x)) [
  | inl before ↦ before
  | inr after ↦ absurd (
      let w = ranks.chain (tree_at nodes (get_or ns j d)) (tree_at nodes n) x (rises_far nodes (tree_at nodes n) ns r j d (omega (arith, lt))) after in
      let z : true ≡ false = sym e ∙ w in cc)
]
parted nodes x (n ∷ ns) r (suc i) zero d le lt e = absurd (omega (arith, le))
parted nodes x (n ∷ ns) r (suc i) (suc j) d le lt e =
    parted nodes x ns (rises_rest nodes (tree_at nodes n) ns r) i j d (omega (arith, le)) (omega (arith, lt)) e

pub sorted_parted : (nodes : List Tree) (x : Tree) (ns : List ℕ) → sorted_terms (trees_at nodes ns) ≡ trees_at nodes ns
    → IsPartitionedBy (λ n. comes_before (tree_at nodes n) x) ns
sorted_parted nodes x ns e = parted nodes x ns (subst Rises e (sorted_rises (trees_at nodes ns)))

pub place_told : (nodes : List Tree) (x : Tree) (ns : List ℕ) (k : ℕ) → k ≤ length ns
    → IsPartitionPoint (λ n. comes_before (tree_at nodes n) x ≡ true) (λ n. comes_before (tree_at nodes n) x ≡ false) ns k
    → k ≡ place_in x (trees_at nodes ns)
place_told nodes x [] k h p = omega (arith, h)
place_told nodes x (n ∷ ns) zero h p = rw (p.1 0 n (omega arith) (omega arith)) refl
place_told nodes x (n ∷ ns) (suc k) h p =
    rw (p.0 0 n (omega arith) (omega arith))
    (ap suc (place_told nodes x ns k (omega (arith, h))
    ((λ i d l u. p.0 (suc i) d (omega arith) (omega (arith, u))), (λ i d l u. p.1 (suc i) d (omega (arith, l)) (omega (arith, u))))))

pub place_within : (nodes : List Tree) (x : Tree) (ns : List ℕ) → place_in x (trees_at nodes ns) ≤ length ns
place_within nodes x [] = omega arith
place_within nodes x (n ∷ ns) = elim (cases_Bool (comes_before (tree_at nodes n) x)) [
  | inl before ↦ rw before (omega (arith, place_within nodes x ns))
  | inr after ↦ rw after (omega arith)
]

before_end : (k m : ℕ) → k ≤ m → (k ≡ m → ⊥) → k < m
before_end zero zero h n = absurd (n refl)
before_end zero (suc m) h n = omega arith
before_end (suc k) zero h n = absurd (omega (arith, h))
before_end (suc k) (suc m) h n = omega (arith, before_end k m (omega (arith, h)) (λ e. n (ap suc e)))

-- a place that isn't the end, which a list of that length has
pub place_before : (nodes : List Tree) (x : Tree) (ns : List ℕ) (k m : ℕ) → k ≡ place_in x (trees_at nodes ns) → length ns ≡ m → (k ≡ m → ⊥) → k < length ns
place_before nodes x ns k m e h n = before_end k (length ns) (omega (arith, e, place_within nodes x ns)) (λ q. n (q ∙ h))

pub there_at : (nodes : List Tree) (ns : List ℕ) (k n : ℕ) → AreThere nodes ns → k < length ns → n ≡ get_or ns k n → n < length nodes
there_at nodes [] k n a h e = absurd (omega (arith, h))
there_at nodes (m ∷ ns) zero n a h e = let P : ℕ → Type 0 = λ i. i < length nodes in subst P (sym e) a.0
there_at nodes (m ∷ ns) (suc k) n a h e = there_at nodes ns k n a.1 (omega (arith, h)) e

pub none_there : (nodes : List Tree) (ns : List ℕ) → ns ≡ [] → AreThere nodes ns
none_there nodes ns e = let P : List ℕ → Type 0 = AreThere nodes in subst P (sym e) tt

-- what was gathered into an empty list
pub gathered : (nodes : List Tree) (old ns : List ℕ) (ts : List Tree) → old ≡ [] → trees_at nodes ns ≡ trees_at nodes old ++ ts → trees_at nodes ns ≡ ts
gathered nodes old ns ts none e = e ∙ ap (λ ms. trees_at nodes ms ++ ts) none

-- ---- the rest of a row

pub rest_shorter : (k m n : ℕ) → (k ≡ 0 → ⊥) → k < m → m ≡ suc n → k - 1 < n
rest_shorter zero m n ne h e = absurd (ne refl)
rest_shorter (suc k) m n ne h e = omega (arith, h, e)

pub drop_first : (k : ℕ) (x : Tree) (xs ys : List Tree) → (k ≡ 0 → ⊥) → ys ≡ x ∷ xs → drop (k - 1) xs ≡ drop k ys
drop_first zero x xs ys n e = absurd (n refl)
drop_first (suc k) x xs ys n e = let same : suc k - 1 ≡ k = omega arith in ap (λ m. drop m xs) same ∙ ap (drop (suc k)) (sym e)

-- a row is sorted
pub row_sorted : (o : Operator) (f : ℕ) (t : Tree) (ts : List Tree) → o.comm ≡ true → is_row o f t ≡ true → ts ≡ leaves f t
    → sorted_terms ts ≡ ts
row_sorted o f t ts c e h =
    let r = in_row o f t e in
    let P : List Tree → Type 0 = Rises in
    sorted_same ts (subst P (sym r.starts ∙ sym h) (r.rows.0 c))

-- ---- what stands before the place, the term, and what stands behind it

put_at : (nodes : List Tree) (i : Bool) (x : Tree) (ns : List ℕ) (k d : ℕ) → k ≡ place_in x (trees_at nodes ns) → k < length ns
    → (i && is_same (tree_at nodes (get_or ns k d)) x) ≡ false
    → trees_at nodes (take k ns) ++ x ∷ trees_at nodes (drop k ns) ≡ put_by true i x (trees_at nodes ns)
put_at nodes i x [] k d e h s = absurd (omega (arith, h))
put_at nodes i x (n ∷ ns) zero d e h s = elim (cases_Bool (comes_before (tree_at nodes n) x)) [
  | inl before ↦ absurd (let z : 0 ≡ suc (place_in x (trees_at nodes ns)) = rw before at e in omega (arith, z))
  | inr after ↦ let other : (i && is_same (tree_at nodes n) x) ≡ false = s in rw (after, other) refl
]
put_at nodes i x (n ∷ ns) (suc k) d e h s = elim (cases_Bool (comes_before (tree_at nodes n) x)) [
  | inl before ↦
      let z : suc k ≡ suc (place_in x (trees_at nodes ns)) = rw before at e in
      rw before (ap (λ zs. tree_at nodes n ∷ zs) (put_at nodes i x ns k d (omega (arith, z)) (omega (arith, h)) s))
  | inr after ↦ absurd (let z : suc k ≡ 0 = rw after at e in omega (arith, z))
]

put_last : (nodes : List Tree) (i : Bool) (x : Tree) (ns : List ℕ) (k : ℕ) → k ≡ place_in x (trees_at nodes ns) → k ≡ length ns
    → trees_at nodes ns ++ x ∷ [] ≡ put_by true i x (trees_at nodes ns)
put_last nodes i x [] k e h = refl
put_last nodes i x (n ∷ ns) zero e h = absurd (omega (arith, h))
put_last nodes i x (n ∷ ns) (suc k) e h = elim (cases_Bool (comes_before (tree_at nodes n) x)) [
  | inl before ↦
      let z : suc k ≡ suc (place_in x (trees_at nodes ns)) = rw before at e in
      rw before (ap (λ zs. tree_at nodes n ∷ zs) (put_last nodes i x ns k (omega (arith, z)) (omega (arith, h))))
  | inr after ↦ absurd (let z : suc k ≡ 0 = rw after at e in omega (arith, z))
]

put_again : (nodes : List Tree) (i : Bool) (x : Tree) (ns : List ℕ) (k d : ℕ) → k ≡ place_in x (trees_at nodes ns) → k < length ns
    → (i && is_same (tree_at nodes (get_or ns k d)) x) ≡ true
    → trees_at nodes ns ≡ put_by true i x (trees_at nodes ns)
put_again nodes i x [] k d e h s = absurd (omega (arith, h))
put_again nodes i x (n ∷ ns) zero d e h s = elim (cases_Bool (comes_before (tree_at nodes n) x)) [
  | inl before ↦ absurd (let z : 0 ≡ suc (place_in x (trees_at nodes ns)) = rw before at e in omega (arith, z))
  | inr after ↦ let same : (i && is_same (tree_at nodes n) x) ≡ true = s in rw (after, same) refl
]
put_again nodes i x (n ∷ ns) (suc k) d e h s = elim (cases_Bool (comes_before (tree_at nodes n) x)) [
  | inl before ↦
      let z : suc k ≡ suc (place_in x (trees_at nodes ns)) = rw before at e in
      rw before (ap (λ zs. tree_at nodes n ∷ zs) (put_again nodes i x ns k d (omega (arith, z)) (omega (arith, h)) s))
  | inr after ↦ absurd (let z : suc k ≡ 0 = rw after at e in omega (arith, z))
]

-- under a commutative operator
put_comm : (o : Operator) (x : Tree) (ys : List Tree) → o.comm ≡ true → put_by true o.idem x ys ≡ put_in o x ys
put_comm o x ys c = ap (λ d. put_by d o.idem x ys) (sym c)

-- ---- what was taken

pub taken_at : (nodes : List Tree) (o : Operator) (f row number rest k n : ℕ) (ns old new : List ℕ) → o.comm ≡ true → old ≡ []
    → trees_at nodes ns ≡ leaves f (tree_at nodes row) → k ≡ place_in (tree_at nodes number) (trees_at nodes ns) → k < length ns
    → n ≡ get_or ns k n → (o.idem && is_same (tree_at nodes n) (tree_at nodes number)) ≡ false → new ≡ take k ns ++ number ∷ []
    → IsRow nodes o f rest → leaves f (tree_at nodes rest) ≡ drop k (leaves f (tree_at nodes row))
    → Takes nodes o f (put_in o (tree_at nodes number) (leaves f (tree_at nodes row))) old new rest
taken_at nodes o f row number rest k n ns old new c none all place less found other is r behind =
    let x = tree_at nodes number in
    let P : ℕ → Type 0 = λ m. (o.idem && is_same (tree_at nodes m) x) ≡ false in
    record {
      rest = r;
      taken =
          ap (λ ts. trees_at nodes new ++ ts) (behind ∙ ap (drop k) (sym all) ∙ sym (map_drop nodes ns k))
          ∙ ap (λ ms. trees_at nodes ms ++ trees_at nodes (drop k ns)) is
          ∙ ap (λ ts. ts ++ trees_at nodes (drop k ns)) (trees_push nodes (take k ns) number)
          ∙ append_assoc (trees_at nodes (take k ns)) (x ∷ []) (trees_at nodes (drop k ns))
          ∙ put_at nodes o.idem x ns k n place less (subst P found other)
          ∙ put_comm o x (trees_at nodes ns) c
          ∙ ap (put_in o x) all
          ∙ ap (λ ms. trees_at nodes ms ++ put_in o x (leaves f (tree_at nodes row))) (sym none);
    }

pub taken_last : (nodes : List Tree) (o : Operator) (f row number k : ℕ) (ns old : List ℕ) → o.comm ≡ true → old ≡ []
    → trees_at nodes ns ≡ leaves f (tree_at nodes row) → k ≡ place_in (tree_at nodes number) (trees_at nodes ns) → k ≡ length ns
    → number < length nodes → operands f (tree_at nodes number) ≡ None
    → Takes nodes o f (put_in o (tree_at nodes number) (leaves f (tree_at nodes row))) old ns number
taken_last nodes o f row number k ns old c none all place end there alone =
    let x = tree_at nodes number in
    record {
      rest = record { there = there; row = row_alone o f x alone };
      taken =
          ap (λ ts. trees_at nodes ns ++ ts) (leaves_leaf f x alone)
          ∙ put_last nodes o.idem x ns k place end
          ∙ put_comm o x (trees_at nodes ns) c
          ∙ ap (put_in o x) all
          ∙ ap (λ ms. trees_at nodes ms ++ put_in o x (leaves f (tree_at nodes row))) (sym none);
    }

pub taken_again : (nodes : List Tree) (o : Operator) (f row number k n : ℕ) (ns old new : List ℕ) → o.comm ≡ true → old ≡ []
    → trees_at nodes ns ≡ leaves f (tree_at nodes row) → k ≡ place_in (tree_at nodes number) (trees_at nodes ns) → k < length ns
    → n ≡ get_or ns k n → (o.idem && is_same (tree_at nodes n) (tree_at nodes number)) ≡ true → new ≡ []
    → IsRow nodes o f row → Takes nodes o f (put_in o (tree_at nodes number) (leaves f (tree_at nodes row))) old new row
taken_again nodes o f row number k n ns old new c none all place less found same is r =
    let x = tree_at nodes number in
    let P : ℕ → Type 0 = λ m. (o.idem && is_same (tree_at nodes m) x) ≡ true in
    record {
      rest = r;
      taken =
          ap (λ ms. trees_at nodes ms ++ leaves f (tree_at nodes row)) (is ∙ sym none)
          ∙ ap (λ ts. trees_at nodes old ++ ts)
          (sym all ∙ put_again nodes o.idem x ns k n place less (subst P found same) ∙ put_comm o x (trees_at nodes ns) c ∙ ap (put_in o x) all);
    }
