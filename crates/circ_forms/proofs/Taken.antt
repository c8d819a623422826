-- Two rows taken as one.
use Rattle.std.proofs.Common.{◌≡◌, ℕ, ◌<◌, ◌==◌, ◌&&◌, Bool, true, false, cond, List, [], ◌∷◌, ◌++◌, Some, Result, Ok, Err, IfOk, not, is_none, refl, ap, sym, subst, ◌∙◌, append_assoc, arith, inl, inr}
use Rattle.std.proofs.lemmas.Bool.{cases_Bool, eq-eqb, and_parts}
use Rattle.circ_term.specs.Tree.{Tree, depth_of}
use Rattle.circ_term.specs.Order.{is_same, comes_before}
use Rattle.circ_term.proofs.Order.{same_here}
use Rattle.circ_theory.specs.Signature.{Operator}
use Rattle.circ_theory.specs.Theory.{twice}
use Rattle.circ_aci.specs.Content.{leaves}
use Rattle.circ_aci.specs.Operands.{operands}
use Rattle.circ_aci.specs.Row.{may_follow, first_in, is_row}
use Rattle.circ_aci.proofs.Finding.{leaves_leaf, leaves_twice, stands_on}
use Rattle.circ_aci.proofs.Rows.{in_row, is_none_so}
use Rattle.circ_merging.specs.Put.{put_by, merge_by, append_by, merged}
use Rattle.circ_nodes.specs.Named.{tree_at}
use Rattle.circ_forms.specs.Named.{trees_at}
use Rattle.circ_forms.specs.Taking.{IsRow, Takes, behind}
use Rattle.circ_forms.proofs.Folded.{trees_push}

-- what a row joins
pub row_starts : (o : Operator) (f : ℕ) (t : Tree) → is_row o f t ≡ true → leaves f t ≡ first_in f t ∷ behind (leaves f t)
row_starts o f t e = let r = in_row o f t e in r.starts ∙ ap (λ xs. first_in f t ∷ behind xs) (sym r.starts)

-- an application of f in a row
pub record HasParts (o : Operator) (f : ℕ) (t a b : Tree) : Type 0 where
  pub joins : leaves f t ≡ a ∷ leaves f b
  pub rest : is_row o f b ≡ true
  pub follows : may_follow o a (first_in f b) ≡ true
  pub less : depth_of b < depth_of t

pub row_parts : (o : Operator) (f : ℕ) (t a b : Tree) → is_row o f t ≡ true → operands f t ≡ Some (a, b) → HasParts o f t a b
row_parts o f t a b e h =
    let s = stands_on f t a b (sym h) in
    let P : Tree → Type 0 = λ u. is_row o f u ≡ true in
    let Q : Tree → Type 0 = λ u. HasParts o f u a b in
    subst Q (sym s.is) (by s.sort (rw (eq-eqb f f refl) at (subst P s.is e)))
  where
    by : (k : ℕ) → ((k == o.result) && (is_none (operands f a) && (may_follow o a (first_in f b) && is_row o f b))) ≡ true → HasParts o f (twice f k a b) a b
    by k e =
        let h = and_parts (k == o.result) (is_none (operands f a) && (may_follow o a (first_in f b) && is_row o f b)) e in
        let i = and_parts (is_none (operands f a)) (may_follow o a (first_in f b) && is_row o f b) h.1 in
        let j = and_parts (may_follow o a (first_in f b)) (is_row o f b) i.1 in
        record {
          joins = leaves_twice f k a b ∙ ap (λ xs. xs ++ leaves f b) (leaves_leaf f a (is_none_so (operands f a) i.0));
          rest = j.1;
          follows = j.0;
          less = omega arith;
        }

-- ---- the three steps by the order of terms

pub merged_second : (o : Operator) (x y : Tree) (xs ys : List Tree) → o.comm ≡ true → comes_before y x ≡ true
    → merged o (x ∷ xs) (y ∷ ys) ≡ y ∷ merged o (x ∷ xs) ys
merged_second o x y xs ys c e = rw (c, e) refl

pub merged_repeated : (o : Operator) (x y : Tree) (xs ys : List Tree) → o.comm ≡ true → comes_before y x ≡ false → (o.idem && is_same y x) ≡ true
    → merged o (x ∷ xs) (y ∷ ys) ≡ merged o xs (y ∷ ys)
merged_repeated o x y xs ys c e s = rw (c, e, s) refl

pub merged_first : (o : Operator) (x y : Tree) (xs ys : List Tree) → o.comm ≡ true → comes_before y x ≡ false → (o.idem && is_same y x) ≡ false
    → merged o (x ∷ xs) (y ∷ ys) ≡ x ∷ merged o xs (y ∷ ys)
merged_first o x y xs ys c e s = rw (c, e, s) refl

-- where one row has ended

pub merged_none : (o : Operator) (ys : List Tree) → merged o [] ys ≡ ys
merged_none o ys = by o.comm
  where
    by : (c : Bool) → cond c (merge_by o.idem [] ys) (append_by o.idem [] ys) ≡ ys
    by true = refl
    by false = refl

pub merged_end : (o : Operator) (xs : List Tree) → o.comm ≡ true → merged o xs [] ≡ xs
merged_end o xs c = rw c (by xs)
  where
    by : (zs : List Tree) → merge_by o.idem zs [] ≡ zs
    by [] = refl
    by (z ∷ zs) = refl

-- the same of two rows

pub starts_with : (o : Operator) (f : ℕ) (t x : Tree) → is_row o f t ≡ true → x ≡ first_in f t → leaves f t ≡ x ∷ behind (leaves f t)
starts_with o f t x e h = row_starts o f t e ∙ ap (λ y. y ∷ behind (leaves f t)) (sym h)

pub order_second : (o : Operator) (x y : Tree) (xs ys : List Tree) → o.comm ≡ true → xs ≡ x ∷ behind xs → ys ≡ y ∷ behind ys
    → comes_before y x ≡ true → merged o xs ys ≡ y ∷ merged o xs (behind ys)
order_second o x y xs ys c p q e =
    ap (λ zs. merged o zs ys) p ∙ ap (merged o (x ∷ behind xs)) q ∙ merged_second o x y (behind xs) (behind ys) c e
    ∙ ap (λ zs. y ∷ merged o zs (behind ys)) (sym p)

pub order_repeated : (o : Operator) (x y : Tree) (xs ys : List Tree) → o.comm ≡ true → xs ≡ x ∷ behind xs → ys ≡ y ∷ behind ys
    → comes_before y x ≡ false → (o.idem && is_same y x) ≡ true → merged o xs ys ≡ merged o (behind xs) ys
order_repeated o x y xs ys c p q e s =
    ap (λ zs. merged o zs ys) p ∙ ap (merged o (x ∷ behind xs)) q ∙ merged_repeated o x y (behind xs) (behind ys) c e s
    ∙ ap (merged o (behind xs)) (sym q)

pub order_first : (o : Operator) (x y : Tree) (xs ys : List Tree) → o.comm ≡ true → xs ≡ x ∷ behind xs → ys ≡ y ∷ behind ys
    → comes_before y x ≡ false → (o.idem && is_same y x) ≡ false → merged o xs ys ≡ x ∷ merged o (behind xs) ys
order_first o x y xs ys c p q e s =
    ap (λ zs. merged o zs ys) p ∙ ap (merged o (x ∷ behind xs)) q ∙ merged_first o x y (behind xs) (behind ys) c e s
    ∙ ap (λ zs. x ∷ merged o (behind xs) zs) (sym q)

-- ---- what was taken

-- one grown was taken
pub taken_more : (nodes : List Tree) (o : Operator) (f : ℕ) (all rest : List Tree) (old new grown : List ℕ) (n last : ℕ)
    → grown ≡ old ++ n ∷ [] → all ≡ tree_at nodes n ∷ rest → Takes nodes o f rest grown new last → Takes nodes o f all old new last
taken_more nodes o f all rest old new grown n last e h t = record {
  rest = t.rest;
  taken =
      t.taken
      ∙ ap (λ ns. trees_at nodes ns ++ rest) e
      ∙ ap (λ ts. ts ++ rest) (trees_push nodes old n)
      ∙ append_assoc (trees_at nodes old) (tree_at nodes n ∷ []) rest
      ∙ ap (λ ts. trees_at nodes old ++ ts) (sym h);
}

pub taken_same : (nodes : List Tree) (o : Operator) (f : ℕ) (all rest : List Tree) (old new : List ℕ) (last : ℕ)
    → all ≡ rest → Takes nodes o f rest old new last → Takes nodes o f all old new last
taken_same nodes o f all rest old new last h t = record { rest = t.rest; taken = t.taken ∙ ap (λ ts. trees_at nodes old ++ ts) (sym h) }

pub taken_none : (nodes : List Tree) (o : Operator) (f : ℕ) (all : List Tree) (old : List ℕ) (last : ℕ)
    → all ≡ leaves f (tree_at nodes last) → IsRow nodes o f last → Takes nodes o f all old old last
taken_none nodes o f all old last h r = record { rest = r; taken = ap (λ ts. trees_at nodes old ++ ts) (sym h) }

-- ---- in the order of the rows

append_first : (i : Bool) (x y : Tree) (zs : List Tree) → (i && is_same y x) ≡ false
    → put_by false i x (put_by false i y zs) ≡ x ∷ put_by false i y zs
append_first i x y [] n = rw n refl
append_first i x y (z ∷ zs) n = elim (cases_Bool (i && is_same z y)) [
  | inl same ↦
      let both = and_parts i (is_same z y) same in
      let P : Tree → Type 0 = λ w. (i && is_same w x) ≡ false in
      let apart = subst P (sym (same_here z y both.1)) n in
      rw (same, apart) refl
  | inr other ↦ rw (other, n) refl
]

unless : (b : Bool) → not b ≡ true → b ≡ false
unless true e = absurd (cc)
unless false e = refl

pub merged_in_row : (o : Operator) (x y : Tree) (xs ys : List Tree) → o.comm ≡ false → may_follow o x y ≡ true
    → merged o (x ∷ y ∷ xs) ys ≡ x ∷ merged o (y ∷ xs) ys
merged_in_row o x y xs ys c e =
    let h = and_parts (not (o.comm && comes_before y x)) (not (o.idem && is_same y x)) e in
    rw c (append_first o.idem x y (append_by o.idem xs ys) (unless (o.idem && is_same y x) h.1))

pub merged_one : (o : Operator) (x y : Tree) (ys : List Tree) → o.comm ≡ false → (o.idem && is_same y x) ≡ false
    → merged o (x ∷ []) (y ∷ ys) ≡ x ∷ y ∷ ys
merged_one o x y ys c n = rw (c, n) refl

pub merged_same : (o : Operator) (x y : Tree) (ys : List Tree) → o.comm ≡ false → (o.idem && is_same y x) ≡ true
    → merged o (x ∷ []) (y ∷ ys) ≡ y ∷ ys
merged_same o x y ys c n = rw (c, n) refl

-- ---- where memory may run out

pub if_more : {E : Type 0} (nodes : List Tree) (o : Operator) (f : ℕ) (all rest : List Tree) (old new grown : List ℕ) (n : ℕ) (r : Result ℕ E)
    → grown ≡ old ++ n ∷ [] → all ≡ tree_at nodes n ∷ rest → IfOk r (λ last. Takes nodes o f rest grown new last) → IfOk r (λ last. Takes nodes o f all old new last)
if_more nodes o f all rest old new grown n (Ok last) e h t = taken_more nodes o f all rest old new grown n last e h t
if_more nodes o f all rest old new grown n (Err x) e h t = tt

pub if_same : {E : Type 0} (nodes : List Tree) (o : Operator) (f : ℕ) (all rest : List Tree) (old new : List ℕ) (r : Result ℕ E)
    → all ≡ rest → IfOk r (λ last. Takes nodes o f rest old new last) → IfOk r (λ last. Takes nodes o f all old new last)
if_same nodes o f all rest old new (Ok last) h t = taken_same nodes o f all rest old new last h t
if_same nodes o f all rest old new (Err x) h t = tt
