-- A term is its own canonical form exactly where what its operator joins stands in a row, settled.
use Rattle.std.proofs.Common.{◌≡◌, ◌↔◌, ℕ, ◌==◌, ◌&&◌, not, Bool, true, false, cond, List, [], ◌∷◌, ◌++◌, Option, Some, None}
use Rattle.std.proofs.Common.{is_none, refl, sym, ap, subst, ◌∙◌, arith, inl, inr}
use Rattle.std.specs.List.{AllByRecursion, dedup, dedup_from}
use Rattle.std.proofs.lemmas.Bool.{cases_Bool, eq-eqb, eqb-true, and_parts}
use Rattle.circ_term.specs.Tree.{Tree, App, none, more, size_of, sort_of}
use Rattle.circ_term.specs.Order.{is_same, comes_before}
use Rattle.circ_theory.specs.Signature.{Operator}
use Rattle.circ_theory.specs.Theory.{twice}
use Rattle.circ_theory.specs.Operators.{has_mark}
use Rattle.circ_aci.specs.Content.{sorted_terms, leaves, settled, content}
use Rattle.circ_aci.specs.Canonical.{join, canonical}
use Rattle.circ_aci.specs.Operands.{operands, marked_operands}
use Rattle.circ_aci.specs.Row.{may_follow, first_in, is_row}
use Rattle.circ_aci.proofs.Settled.{Rises, sorted_rises, sorted_same, drop_rises, IsSome, all_append, all_settled, settled_some}
use Rattle.circ_aci.proofs.Sizes.{canonical_small}
use Rattle.circ_aci.proofs.Finding.{by_marks, marked_on, content_twice, leaves_leaf, leaves_twice}
use Rattle.circ_aci.proofs.Deriving.{other_way, two_settled}
use Rattle.circ_aci.proofs.Again.{IsAlone, content_many, content_two}

-- no term is the same as its neighbour to the left
abbrev pub Differs : List Tree → Type 0
Differs [] = Unit {0}
Differs (x ∷ []) = Unit {0}
Differs (x ∷ y ∷ ys) = (is_same y x ≡ false) × Differs (y ∷ ys)

-- the list is settled
abbrev pub Rows : Operator → List Tree → Type 0
Rows o xs = (o.comm ≡ true → Rises xs) × (o.idem ≡ true → Differs xs)

drop_differs : (x : Tree) (xs : List Tree) → Differs (dedup_from is_same x xs)
drop_differs x [] = tt
drop_differs x (y ∷ ys) = elim (cases_Bool (is_same y x)) [
  | inl same ↦ rw same (drop_differs x ys)
  | inr other ↦ rw other (behind x y ys other (drop_differs y ys))
]
  where
    behind : (x y : Tree) (ys : List Tree) → is_same y x ≡ false → Differs (dedup_from is_same y ys) → Differs (x ∷ dedup_from is_same y ys)
    behind x y [] e d = (e, d)
    behind x y (z ∷ zs) e d = elim (cases_Bool (is_same z y)) [
      | inl same ↦ rw same (behind x y zs e (rw same at d))
      | inr other ↦ rw other (e, rw other at d)
    ]

differs_same : (x : Tree) (xs : List Tree) → Differs (x ∷ xs) → dedup_from is_same x xs ≡ x ∷ xs
differs_same x [] d = refl
differs_same x (y ∷ ys) d = rw d.0 (ap (λ zs. x ∷ zs) (differs_same y ys d.1))

-- what is settled is a row, and a row is settled
pub settled_rows : (o : Operator) (x : Tree) (xs : List Tree) → Rows o (settled o (x ∷ xs))
settled_rows o x xs = (λ c. rises o.comm o.idem c, λ i. differs o.comm o.idem i)
  where
    settle : Bool → Bool → List Tree
    settle c i = cond i (dedup is_same (cond c (sorted_terms (x ∷ xs)) (x ∷ xs))) (cond c (sorted_terms (x ∷ xs)) (x ∷ xs))

    dropped_rises : (ys : List Tree) → Rises ys → Rises (dedup is_same ys)
    dropped_rises [] r = tt
    dropped_rises (y ∷ ys) r = drop_rises y ys r

    dropped_differs : (ys : List Tree) → Differs (dedup is_same ys)
    dropped_differs [] = tt
    dropped_differs (y ∷ ys) = drop_differs y ys

    rises : (c i : Bool) → c ≡ true → Rises (settle c i)
    rises true true e = dropped_rises (sorted_terms (x ∷ xs)) (sorted_rises (x ∷ xs))
    rises true false e = sorted_rises (x ∷ xs)
    rises false i e = absurd (cc)

    differs : (c i : Bool) → i ≡ true → Differs (settle c i)
    differs c true e = dropped_differs (cond c (sorted_terms (x ∷ xs)) (x ∷ xs))
    differs c false e = absurd (cc)

pub rows_settled : (o : Operator) (x : Tree) (xs : List Tree) → Rows o (x ∷ xs) → settled o (x ∷ xs) ≡ x ∷ xs
rows_settled o x xs r = same o.comm o.idem r.0 r.1
  where
    same : (c i : Bool) → (c ≡ true → Rises (x ∷ xs)) → (i ≡ true → Differs (x ∷ xs))
        → cond i (dedup is_same (cond c (sorted_terms (x ∷ xs)) (x ∷ xs))) (cond c (sorted_terms (x ∷ xs)) (x ∷ xs)) ≡ x ∷ xs
    same true true p q = ap (dedup is_same) (sorted_same (x ∷ xs) (p refl)) ∙ differs_same x xs (q refl)
    same true false p q = sorted_same (x ∷ xs) (p refl)
    same false true p q = differs_same x xs (q refl)
    same false false p q = refl

-- one more at the front
unless : (c b : Bool) → not (c && b) ≡ true → c ≡ true → b ≡ false
unless true true e c = absurd (cc)
unless true false e c = refl
unless false b e c = absurd (cc)

if_not : (c b : Bool) → (c ≡ true → b ≡ false) → not (c && b) ≡ true
if_not true b h = ap not (h refl)
if_not false b h = refl

pub rows_more : (o : Operator) (x y : Tree) (ys : List Tree) → may_follow o x y ≡ true → Rows o (y ∷ ys) → Rows o (x ∷ y ∷ ys)
rows_more o x y ys e r =
    let h = and_parts (not (o.comm && comes_before y x)) (not (o.idem && is_same y x)) e in
    (λ c. (unless o.comm (comes_before y x) h.0 c, r.0 c), λ i. (unless o.idem (is_same y x) h.1 i, r.1 i))

pub rows_first : (o : Operator) (x y : Tree) (ys : List Tree) → Rows o (x ∷ y ∷ ys) → may_follow o x y ≡ true
rows_first o x y ys r = rw (if_not o.comm (comes_before y x) (λ c. (r.0 c).0), if_not o.idem (is_same y x) (λ i. (r.1 i).0)) refl

pub rows_rest : (o : Operator) (x y : Tree) (ys : List Tree) → Rows o (x ∷ y ∷ ys) → Rows o (y ∷ ys)
rows_rest o x y ys r = (λ c. (r.0 c).1, λ i. (r.1 i).1)

-- ---- an associative operator

pub is_none_so : {X : Type 0} (x : Option X) → is_none x ≡ true → x ≡ None
is_none_so None e = refl
is_none_so (Some y) e = absurd (cc)

-- the leaves of t are in a row, which joined is t
pub record InRow (o : Operator) (f : ℕ) (t : Tree) : Type 0 where
  pub rest : List Tree
  pub starts : leaves f t ≡ first_in f t ∷ rest
  pub joined : join f o.result (first_in f t ∷ rest) ≡ t
  pub rows : Rows o (first_in f t ∷ rest)

pub in_row : (o : Operator) (f : ℕ) (t : Tree) → is_row o f t ≡ true → InRow o f t
in_row o f (App g s (more a (more b none))) e = elim (cases_Bool (f == g)) [
  | inl q ↦ joins q (rw q at e) (λ h. in_row o f b h)
  | inr n ↦ record {
    rest = [];
    starts = rw n refl;
    joined = rw n refl;
    rows = ((λ c. tt), (λ i. tt));
  }
]
  where
    joins : (f == g) ≡ true → ((s == o.result) && (is_none (operands f a) && (may_follow o a (first_in f b) && is_row o f b))) ≡ true
        → (is_row o f b ≡ true → InRow o f b) → InRow o f (App g s (more a (more b none)))
    joins q e ih =
        let h = and_parts (s == o.result) (is_none (operands f a) && (may_follow o a (first_in f b) && is_row o f b)) e in
        let i = and_parts (is_none (operands f a)) (may_follow o a (first_in f b) && is_row o f b) h.1 in
        let j = and_parts (may_follow o a (first_in f b)) (is_row o f b) i.1 in
        let below = ih j.1 in
        let first = first_in f b in
        record {
          rest = first ∷ below.rest;
          starts = rw q (ap (λ xs. xs ++ leaves f b) (leaves_leaf f a (is_none_so (operands f a) i.0)) ∙ ap (λ xs. a ∷ xs) below.starts);
          joined = rw q (ap (twice f o.result a) below.joined
              ∙ ap (λ n. App n o.result (more a (more b none))) (eqb-true f g q)
              ∙ ap (λ n. App g n (more a (more b none))) (sym (eqb-true s o.result h.0)));
          rows = rw q (rows_more o a first below.rest j.0 below.rows);
        }
in_row o f t e = record { rest = []; starts = refl; joined = refl; rows = ((λ c. tt), (λ i. tt)) }

pub row_alone : (o : Operator) (f : ℕ) (t : Tree) → IsAlone f t → is_row o f t ≡ true
row_alone o f (App g s (more a (more b none))) e = elim (cases_Bool (f == g)) [
  | inl q ↦ absurd (let z : Some (a, b) ≡ None = rw q at e in cc)
  | inr n ↦ rw n refl
]
row_alone o f t e = refl

pub first_alone : (f : ℕ) (t : Tree) → IsAlone f t → first_in f t ≡ t
first_alone f (App g s (more a (more b none))) e = elim (cases_Bool (f == g)) [
  | inl q ↦ absurd (let z : Some (a, b) ≡ None = rw q at e in cc)
  | inr n ↦ rw n refl
]
first_alone f t e = refl

pub all_alone : (f : ℕ) (t : Tree) → AllByRecursion (IsAlone f) (leaves f t)
all_alone f (App g s (more a (more b none))) = elim (cases_Bool (f == g)) [
  | inl q ↦ rw q (all_append (IsAlone f) (leaves f a) (leaves f b) (all_alone f a) (all_alone f b))
  | inr n ↦ rw n (rw n refl, tt)
]
all_alone f t = (refl, tt)

first_join : (f k : ℕ) (x : Tree) (xs : List Tree) → AllByRecursion (IsAlone f) (x ∷ xs) → first_in f (join f k (x ∷ xs)) ≡ x
first_join f k x [] a = first_alone f x a.0
first_join f k x (y ∷ ys) a = rw (eq-eqb f f refl) refl

pub row_join : (o : Operator) (f : ℕ) (x : Tree) (xs : List Tree) → AllByRecursion (IsAlone f) (x ∷ xs) → Rows o (x ∷ xs)
    → is_row o f (join f o.result (x ∷ xs)) ≡ true
row_join o f x [] a r = row_alone o f x a.0
row_join o f x (y ∷ ys) a r =
    let follows = ap (may_follow o x) (first_join f o.result y ys a.1) ∙ rows_first o x y ys r in
    rw (eq-eqb f f refl, eq-eqb o.result o.result refl, a.0, follows, row_join o f y ys a.1 (rows_rest o x y ys r)) refl

pub leaves_some : (f : ℕ) (t : Tree) → IsSome (leaves f t)
leaves_some f (App g s (more a (more b none))) = elim (cases_Bool (f == g)) [
  | inl q ↦ rw q (before (leaves f a) (leaves f b) (leaves_some f a))
  | inr n ↦ rw n tt
]
  where
    before : (xs ys : List Tree) → IsSome xs → IsSome (xs ++ ys)
    before [] ys s = absurd s
    before (x ∷ xs) ys s = tt
leaves_some f t = tt

-- the content of t is its leaves, settled
pub content_leaves : (o : Operator) (f k : ℕ) (a b : Tree) → has_mark o ≡ true → o.assoc ≡ true
    → content o f (twice f k a b) ≡ settled o (leaves f (twice f k a b))
content_leaves o f k a b m c = content_many o f k a b m c ∙ ap (settled o) (sym (leaves_twice f k a b))

pub row_told : (o : Operator) (f k : ℕ) (a b : Tree) → has_mark o ≡ true → o.assoc ≡ true
    → (is_row o f (twice f k a b) ≡ true) ↔ (canonical o f (twice f k a b) ≡ twice f k a b)
row_told o f k a b m c = (forth, λ e. back (leaves f t) refl (leaves_some f t) e)
  where
    t : Tree
    t = twice f k a b

    forth : is_row o f t ≡ true → canonical o f t ≡ t
    forth e =
        let row = in_row o f t e in
        ap (join f o.result) (content_leaves o f k a b m c ∙ ap (settled o) row.starts ∙ rows_settled o (first_in f t) row.rest row.rows)
        ∙ row.joined

    -- the content, being the leaves of what it joins to, is the leaves of t
    settled_row : (ys : List Tree) → IsSome ys → AllByRecursion (IsAlone f) ys → Rows o ys → is_row o f (join f o.result ys) ≡ true
    settled_row [] s a r = absurd s
    settled_row (y ∷ ys) s a r = row_join o f y ys a r

    back : (xs : List Tree) → leaves f t ≡ xs → IsSome xs → canonical o f t ≡ t → is_row o f t ≡ true
    back [] l s e = absurd s
    back (x ∷ xs) l s e =
        let P : Tree → Type 0 = λ u. is_row o f u ≡ true in
        let Q : List Tree → Type 0 = AllByRecursion (IsAlone f) in
        let alone : AllByRecursion (IsAlone f) (x ∷ xs) = subst Q l (all_alone f t) in
        let whole : content o f t ≡ settled o (x ∷ xs) = content_leaves o f k a b m c ∙ ap (settled o) l in
        subst P (ap (join f o.result) (sym whole) ∙ e)
        (settled_row (settled o (x ∷ xs)) (settled_some o x xs) (all_settled (IsAlone f) o x xs alone) (settled_rows o x xs))

-- ---- an operator that is not associative

pub two_told : (o : Operator) (f k : ℕ) (a b : Tree) → has_mark o ≡ true → o.assoc ≡ false
    → ((k ≡ o.result) × (may_follow o a b ≡ true)) ↔ (canonical o f (twice f k a b) ≡ twice f k a b)
two_told o f k a b m c = (forth, back)
  where
    t : Tree
    t = twice f k a b

    forth : (k ≡ o.result) × (may_follow o a b ≡ true) → canonical o f t ≡ t
    forth e =
        let r = rows_more o a b [] e.1 ((λ w. tt), (λ i. tt)) in
        let apart : o.idem ≡ true → is_same a b ≡ false = λ i. other_way b a (r.1 i).0 in
        ap (join f o.result) (content_two o f k a b m c apart ∙ rows_settled o a (b ∷ []) r) ∙ ap (λ n. twice f n a b) (sym e.0)

    in_place : settled o (a ∷ b ∷ []) ≡ a ∷ b ∷ [] → may_follow o a b ≡ true
    in_place e = let P : List Tree → Type 0 = Rows o in rows_first o a b [] (subst P e (settled_rows o a (b ∷ [])))

    first_of : Tree → Tree
    first_of (App g s (more x xs)) = x
    first_of x = x

    Goal : List Tree → Type 0
    Goal xs = join f o.result xs ≡ t → (k ≡ o.result) × (may_follow o a b ≡ true)

    apart : (o.idem ≡ true → is_same a b ≡ false) → Goal (settled o (a ∷ b ∷ []))
    apart n e = elim (two_settled o a b n) [
      | inl s ↦ (sym (ap sort_of (ap (join f o.result) (sym s) ∙ e)), in_place s)
      | inr s ↦
          let whole : twice f o.result b a ≡ t = ap (join f o.result) (sym s.1) ∙ e in
          let same : b ≡ a = ap first_of whole in
          let P : Tree → Type 0 = λ x. settled o (a ∷ b ∷ []) ≡ x ∷ a ∷ [] in
          let Q : Tree → Type 0 = λ x. settled o (a ∷ b ∷ []) ≡ a ∷ x ∷ [] in
          (sym (ap sort_of whole), in_place (subst Q (sym same) (subst P same s.1)))
    ]

    back : canonical o f t ≡ t → (k ≡ o.result) × (may_follow o a b ≡ true)
    back = subst Goal (sym (content_twice o f k a b m))
        (by_marks Goal o o.idem o.assoc (is_same a b) (content o f a) (leaves f a ++ leaves f b) (a ∷ b ∷ [])
        (λ y. absurd (let z = sym y ∙ c in cc))
        (λ y i r e. absurd (omega (arith, canonical_small o f a, ap size_of e)))
        (λ y n. apart n))

-- ---- the same as the code asks it

pub row_stands : (o : Operator) (f : ℕ) (t a b : Tree) → Some (a, b) ≡ marked_operands o f t → o.assoc ≡ true
    → (is_row o f t ≡ true) ↔ (canonical o f t ≡ t)
row_stands o f t a b e c =
    let h = marked_on o f t a b e in
    let P : Tree → Type 0 = λ u. (is_row o f u ≡ true) ↔ (canonical o f u ≡ u) in
    subst P (sym h.1.is) (row_told o f h.1.sort a b h.0 c)

pub two_stand : (o : Operator) (f : ℕ) (t a b : Tree) → Some (a, b) ≡ marked_operands o f t → o.assoc ≡ false
    → ((sort_of t ≡ o.result) × (may_follow o a b ≡ true)) ↔ (canonical o f t ≡ t)
two_stand o f t a b e c =
    let h = marked_on o f t a b e in
    let P : Tree → Type 0 = λ u. ((sort_of u ≡ o.result) × (may_follow o a b ≡ true)) ↔ (canonical o f u ≡ u) in
    subst P (sym h.1.is) (two_told o f h.1.sort a b h.0 c)
