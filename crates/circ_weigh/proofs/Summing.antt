-- Leaves of sums, and the parts that are noted, taken and gone on with.
use Rattle.std.proofs.Common.{◌≡◌, ◌↔◌, ℕ, ◌+◌, ◌*◌, ◌<◌, ◌≤◌, Bool, true, false, cond, ◌==◌, ◌&&◌, not, if◌then◌else◌, List, [], ◌∷◌, ◌++◌, length, refl, sym, ap, subst, ◌∙◌, arith, inl, inr}
use Rattle.std.specs.List.{Contains, AllByRecursion, sum_by}
use Rattle.std.proofs.lemmas.Bool.{eqb-true, eq-eqb}
use Rattle.std.proofs.lemmas.List.Sums.{sum_by-cons, sum_by-append, sum_by_push}
use Rattle.std.proofs.Common.{zero, suc, ◌⊎◌, map, Result, Ok, Err, IfOk, IsTrue}
use Rattle.std.specs.Prelude.{slice_index_or}
use Rattle.std.specs.Ordering.{is_lt}
use Rattle.std.specs.BinaryHeap.{IsUpperBound}
use Rattle.std.specs.List.Sorted.{IsPermutation}
use Rattle.std.proofs.lemmas.Bool.Decides.{nat_tests}
use Rattle.std.proofs.lemmas.List.{length-map}
use Rattle.std.proofs.lemmas.List.Sorted.{IsPermutation-sym, IsPermutation-to_front, Contains-permutation, sum_by_popped, sum_by_pushed}
use Rattle.circ_term.specs.Tree.{Tree, Trees, Var, App, none, more, size_of, list_of, trees_of}
use Rattle.circ_term.proofs.Trees.{list_of-trees_of}
use Rattle.circ_term.specs.Order.{is_same}
use Rattle.circ_term.proofs.Order.{same_here}
use Rattle.circ_nodes.specs.Named.{tree_at}
use Rattle.circ_theory.specs.Signature.{Operator}
use Rattle.circ_theory.specs.Operators.{has_mark}
use Rattle.circ_aci.specs.Content.{leaves, content, settled, sorted_terms}
use Rattle.circ_nodes.specs.Named.{IsNamed, AreNamed}
use Rattle.circ_nodes.proofs.Numbers.{all_below}
use Rattle.circ_weigh.specs.declared.weighing.Part.{Part}
use Rattle.circ_weigh.specs.Weighing.{one, ones, holds, left_sum, right_sum, part_cmp, Agree, Balances, BalancesWith, IsPart, AreParts, IsLeafPart, Adds, Takes, IsAbove, IsPast, StepsOn}
use Rattle.circ_nodes.proofs.Located.{tree_named, trees_named}
use Rattle.circ_weigh.proofs.Counting.{ones-append, sorted_equal}

-- a sum of two
abbrev pub two : (f s : ℕ) → Tree → Tree → Tree
two f s a b = App f s (more a (more b none))

pub leaves_two : (f s : ℕ) (a b : Tree) → leaves f (two f s a b) ≡ leaves f a ++ leaves f b
leaves_two f s a b = rw (eq-eqb f f refl) refl

one_other : (t u : Tree) → (t ≡ u → ⊥) → one t u ≡ 0
one_other t u other = go (is_same t u) refl
  where
    go : (b : Bool) → is_same t u ≡ b → ◌≡◌ {A = ℕ} (cond b 1 0) 0
    go true e = absurd (other (same_here t u e))
    go false e = refl

pub other_alone : (t u : Tree) → (t ≡ u → ⊥) → one t u + 0 ≡ 0
other_alone t u other = let e = one_other t u other in omega (arith, e)

-- ---- content

-- under an operator that is associative and commutative and not idempotent the content is the leaves, sorted
pub content_leaves : (o : Operator) (f : ℕ) (t : Tree) → o.assoc ≡ true → o.comm ≡ true → o.idem ≡ false → content o f t ≡ sorted_terms (leaves f t)
content_leaves o f (Var n s) a c i = refl
content_leaves o f (App g s none) a c i = refl
content_leaves o f (App g s (more x none)) a c i = refl
content_leaves o f (App g s (more x (more y none))) a c i = go (f == g)
  where
    go : (b : Bool) → (if not (b && has_mark o) then App g s (more x (more y none)) ∷ []
        else if o.idem && not o.assoc && is_same x y then content o f x
        else settled o (if o.assoc then leaves f x ++ leaves f y else x ∷ y ∷ []))
        ≡ sorted_terms (if b then leaves f x ++ leaves f y else App g s (more x (more y none)) ∷ [])
    go true = rw (a, c, i) refl
    go false = refl
content_leaves o f (App g s (more x (more y (more z ts)))) a c i = refl

pub content_weighs : (o : Operator) (f : ℕ) (t u : Tree) → o.assoc ≡ true → o.comm ≡ true → o.idem ≡ false
    → (content o f t ≡ content o f u) ↔ ((x : Tree) → ones x (leaves f t) ≡ ones x (leaves f u))
content_weighs o f t u a c i =
    let p = content_leaves o f t a c i in
    let q = content_leaves o f u a c i in
    let h = sorted_equal (leaves f t) (leaves f u) in
    ((λ e. h.0 (sym p ∙ e ∙ q)), (λ k. p ∙ h.1 k ∙ sym q))

-- ---- parts

pub spread : (a b c : ℕ) → (a + b) * c ≡ a * c + b * c
spread a b c = omega arith

pub size_some : (t : Tree) → 1 ≤ size_of t
size_some (Var n s) = omega arith
size_some (App f s ts) = omega arith

pub there_behind : {X : Type 0} (x y : X) (xs : List X) → Contains xs y → Contains (x ∷ xs) y
there_behind x y xs h = let k = h.1 in (suc h.0, omega (arith, k), h.2)

pub first_there : {X : Type 0} (x : X) (xs : List X) → Contains (x ∷ xs) x
first_there x xs = (0, omega arith, refl)

pub there_cases : {X : Type 0} (x y : X) (xs : List X) → Contains (x ∷ xs) y → (x ≡ y) ⊎ Contains xs y
there_cases x y xs (zero, h, e) = inl e
there_cases x y xs (suc k, h, e) = inr (k, omega (arith, h), e)

pub sum_same : (m n : Part → ℕ) (ps : List Part) → ((p : Part) → Contains ps p → m p ≡ n p) → sum_by m ps ≡ sum_by n ps
sum_same m n [] h = refl
sum_same m n (p ∷ ps) h =
    let here = h p (first_there p ps) in
    let rest = sum_same m n ps (λ q k. h q (there_behind p q ps k)) in
    let a = sum_by-cons m p ps in
    let b = sum_by-cons n p ps in
    omega (arith, here, rest, a, b)

pub sum_none : (m : Part → ℕ) (ps : List Part) → ((p : Part) → Contains ps p → m p ≡ 0) → sum_by m ps ≡ 0
sum_none m [] h = refl
sum_none m (p ∷ ps) h =
    let here = h p (first_there p ps) in
    let rest = sum_none m ps (λ q k. h q (there_behind p q ps k)) in
    let a = sum_by-cons m p ps in
    omega (arith, here, rest, a)

pub none_of : (w n : ℕ) → n ≡ 0 → w * n ≡ 0
none_of w n h = ap (λ k. w * k) h ∙ omega arith

pub all_of : (w n : ℕ) → n ≡ 1 → w * n ≡ w
all_of w n h = ap (λ k. w * k) h ∙ omega arith

pub spread_left : (a b c : ℕ) → a * (b + c) ≡ a * b + a * c
spread_left a b c = omega arith

-- ---- a term taken apart

pub leaf_top : (f g s : ℕ) (ts : Trees) → (f ≡ g → ⊥) → leaves f (App g s ts) ≡ App g s ts ∷ []
leaf_top f g s none h = refl
leaf_top f g s (more a none) h = refl
leaf_top f g s (more a (more b none)) h = go (f == g) refl
  where
    go : (c : Bool) → (f == g) ≡ c → (if c then leaves f a ++ leaves f b else App g s (more a (more b none)) ∷ []) ≡ App g s (more a (more b none)) ∷ []
    go true e = absurd (h (eqb-true f g e))
    go false e = refl
leaf_top f g s (more a (more b (more c ts))) h = refl

pub leaf_count : (f g s : ℕ) (ts : Trees) → (length (list_of ts) ≡ 2 → ⊥) → leaves f (App g s ts) ≡ App g s ts ∷ []
leaf_count f g s none h = refl
leaf_count f g s (more a none) h = refl
leaf_count f g s (more a (more b none)) h = absurd (h refl)
leaf_count f g s (more a (more b (more c ts))) h = refl

pub two_args : (nodes : List Tree) (ns : List ℕ) → length ns ≡ 2
    → trees_of (map (tree_at nodes) ns) ≡ more (tree_at nodes (slice_index_or ns 0 0)) (more (tree_at nodes (slice_index_or ns 1 0)) none)
two_args nodes [] h = absurd (omega (arith, h))
two_args nodes (n ∷ []) h = absurd (omega (arith, h))
two_args nodes (n ∷ m ∷ []) h = refl
two_args nodes (n ∷ m ∷ k ∷ ns) h = absurd (omega (arith, h))

pub two_there : (count : ℕ) (ns : List ℕ) → length ns ≡ 2 → AllByRecursion (λ n. n < count) ns → (slice_index_or ns 0 0 < count) × (slice_index_or ns 1 0 < count)
two_there count [] h a = absurd (omega (arith, h))
two_there count (n ∷ []) h a = absurd (omega (arith, h))
two_there count (n ∷ m ∷ []) h a = (a.0, a.1.0)
two_there count (n ∷ m ∷ k ∷ ns) h a = absurd (omega (arith, h))

module _ (nodes : List Tree) (p f s : ℕ) (ns : List ℕ) (there : p < length nodes) (shape : (t : Tree) → IsNamed nodes p t → (ts : Trees) × (t ≡ App f s ts) × AreNamed nodes ns ts) where
  pub taken : tree_at nodes p ≡ App f s (trees_of (map (tree_at nodes) ns))
  taken = let h = shape (tree_at nodes p) (tree_named nodes p there) in h.1 ∙ ap (App f s) (sym (trees_named nodes ns h.0 h.2))

  pub args_there : AllByRecursion (λ n. n < length nodes) ns
  args_there = let h = shape (tree_at nodes p) (tree_named nodes p there) in all_below nodes ns h.0 h.2

  pub args_length : length (list_of (trees_of (map (tree_at nodes) ns))) ≡ length ns
  args_length = ap length (list_of-trees_of (map (tree_at nodes) ns)) ∙ length-map ns (tree_at nodes)

-- ---- parts that are added and taken

pub there_pushed : {X : Type 0} (P : X → Type 0) (x : X) (old new : List X) → IsPermutation (x ∷ old) new → P x → ((p : X) → Contains old p → P p) → (p : X) → Contains new p → P p
there_pushed P x old new perm one all p there = go (there_cases x p old (Contains-permutation new (x ∷ old) p (IsPermutation-sym (x ∷ old) new perm) there))
  where
    go : (x ≡ p) ⊎ Contains old p → P p
    go (inl e) = subst P e one
    go (inr h) = all p h

pushed_more : (m : Part → ℕ) (x : Part) (old new known : List Part) → IsPermutation (x ∷ old) new → sum_by m (new ++ known) ≡ m x + sum_by m (old ++ known)
pushed_more m x old new known perm =
    let a = sum_by_pushed m x old new perm in
    let b = sum_by-append m new known in
    let c = sum_by-append m old known in
    omega (arith, a, b, c)

noted_more : (m : Part → ℕ) (x : Part) (old known noted : List Part) → noted ≡ known ++ x ∷ [] → sum_by m (old ++ noted) ≡ m x + sum_by m (old ++ known)
noted_more m x old known noted is =
    let a = ap (sum_by m) is ∙ sum_by_push m known x in
    let b = sum_by-append m old noted in
    let c = sum_by-append m old known in
    omega (arith, a, b, c)

pub adds_sum : (nodes : List Tree) (f : ℕ) (x : Part) (old new known : List Part) → IsPart nodes x → IsPermutation (x ∷ old) new
    → Adds nodes f x.number x.left x.right old new known known
adds_sum nodes f x old new known is perm = record {
  left_more = λ g. pushed_more (λ (p : Part). p.left * g p.number) x old new known perm;
  right_more = λ g. pushed_more (λ (p : Part). p.right * g p.number) x old new known perm;
  size_more = let size = is.size in let e = sum_by_pushed (λ (p : Part). p.size) x old new perm in omega (arith, e, size);
  parts = λ all. there_pushed (IsPart nodes) x old new perm is all;
  lone = λ all. all;
}

pub adds_leaf : (nodes : List Tree) (f : ℕ) (x : Part) (old known noted : List Part) → IsLeafPart nodes f x → noted ≡ known ++ x ∷ []
    → Adds nodes f x.number x.left x.right old old known noted
adds_leaf nodes f x old known noted is e = record {
  left_more = λ g. noted_more (λ (p : Part). p.left * g p.number) x old known noted e;
  right_more = λ g. noted_more (λ (p : Part). p.right * g p.number) x old known noted e;
  size_more = omega arith;
  parts = λ all. all;
  lone = λ all p there. there_pushed (IsLeafPart nodes f) x known (known ++ x ∷ []) (IsPermutation-sym (known ++ x ∷ []) (x ∷ known) (IsPermutation-to_front known x)) is all p
      (subst (λ ps. Contains ps p) e there);
}

pub steps_same : (nodes : List Tree) (f : ℕ) (x : Part) (old known : List Part) → x.left ≡ x.right → StepsOn nodes f x old old known known
steps_same nodes f x old known e = record {
  balance = (
    (λ h t. let k = h t in let w = ap (λ n. n * holds nodes f t x.number) e in omega (arith, k, w)),
    (λ h t. let k = h t in let w = ap (λ n. n * holds nodes f t x.number) e in omega (arith, k, w)),
  );
  parts = λ h. h;
  lone = λ h. h;
  falls = λ size. let one = size_some (tree_at nodes x.number) in omega (arith, size, one);
}

pub steps_leaf : (nodes : List Tree) (f : ℕ) (x : Part) (old known noted : List Part) → IsLeafPart nodes f x → noted ≡ known ++ x ∷ [] → StepsOn nodes f x old old known noted
steps_leaf nodes f x old known noted is e =
    let adds = adds_leaf nodes f x old known noted is e in
    record {
      balance = (
        (λ h t. let k = h t in let a = adds.left_more (holds nodes f t) in let b = adds.right_more (holds nodes f t) in omega (arith, k, a, b)),
        (λ h t. let k = h t in let a = adds.left_more (holds nodes f t) in let b = adds.right_more (holds nodes f t) in omega (arith, k, a, b)),
      );
      parts = λ h. h;
      lone = adds.lone;
      falls = λ size. let one = size_some (tree_at nodes x.number) in omega (arith, size, one);
    }

pub steps_two : (nodes : List Tree) (f : ℕ) (x : Part) (first second : ℕ) (old middle new known between noted : List Part)
    → (s : ℕ) × (tree_at nodes x.number ≡ App f s (more (tree_at nodes first) (more (tree_at nodes second) none))) × (first < length nodes) × (second < length nodes)
    → Adds nodes f first x.left x.right old middle known between → Adds nodes f second x.left x.right middle new between noted → StepsOn nodes f x old new known noted
steps_two nodes f x first second old middle new known between noted is one two = record {
  balance = ((λ h t. forth t (h t)), (λ h t. back t (h t)));
  parts = λ h. two.parts (one.parts h);
  lone = λ h. two.lone (one.lone h);
  falls = λ size.
      let a = one.size_more in let b = two.size_more in
      let whole = ap size_of is.1 in omega (arith, size, a, b, whole);
}
  where
    apart : (t : Tree) → holds nodes f t x.number ≡ holds nodes f t first + holds nodes f t second
    apart t =
        ap (λ u. ones t (leaves f u)) is.1 ∙ ap (ones t) (leaves_two f is.0 (tree_at nodes first) (tree_at nodes second))
        ∙ ones-append t (leaves f (tree_at nodes first)) (leaves f (tree_at nodes second))

    left : (t : Tree) → left_sum (holds nodes f t) (new ++ noted) ≡ left_sum (holds nodes f t) (old ++ known) + x.left * holds nodes f t x.number
    left t =
        let g : ℕ → ℕ = holds nodes f t in
        let a = one.left_more g in let b = two.left_more g in
        let d = ap (λ n. x.left * n) (apart t) ∙ spread_left x.left (g first) (g second) in
        omega (arith, a, b, d)

    right : (t : Tree) → right_sum (holds nodes f t) (new ++ noted) ≡ right_sum (holds nodes f t) (old ++ known) + x.right * holds nodes f t x.number
    right t =
        let g : ℕ → ℕ = holds nodes f t in
        let a = one.right_more g in let b = two.right_more g in
        let d = ap (λ n. x.right * n) (apart t) ∙ spread_left x.right (g first) (g second) in
        omega (arith, a, b, d)

    forth : (t : Tree) → left_sum (holds nodes f t) (new ++ noted) ≡ right_sum (holds nodes f t) (new ++ noted)
        → left_sum (holds nodes f t) (old ++ known) + x.left * holds nodes f t x.number ≡ right_sum (holds nodes f t) (old ++ known) + x.right * holds nodes f t x.number
    forth t h = sym (left t) ∙ h ∙ right t

    back : (t : Tree) → left_sum (holds nodes f t) (old ++ known) + x.left * holds nodes f t x.number ≡ right_sum (holds nodes f t) (old ++ known) + x.right * holds nodes f t x.number
        → left_sum (holds nodes f t) (new ++ noted) ≡ right_sum (holds nodes f t) (new ++ noted)
    back t h = left t ∙ h ∙ sym (right t)

-- ---- the greatest part

pub key_le : (q p : Part) → is_lt (part_cmp q p) ≡ false → (p.size ≤ q.size) × (p.size ≡ q.size → p.number ≤ q.number)
key_le q p h = (grind (arith, nat_tests), (λ e. grind (arith, nat_tests)))

-- none of these is greater
abbrev pub IsTop : Part → List Part → Type 0
IsTop x ps = (p : Part) → Contains ps p → (p.size ≤ x.size) × (p.size ≡ x.size → p.number ≤ x.number)

all_there : {X : Type 0} (P : X → Type 0) (xs : List X) (x : X) → AllByRecursion P xs → Contains xs x → P x
all_there P [] x a h = let b = h.1 in absurd (omega (arith, b))
all_there P (y ∷ xs) x a (zero, b, e) = subst P e a.0
all_there P (y ∷ xs) x a (suc k, b, e) = all_there P xs x a.1 (k, omega (arith, b), e)

pub upper_top : (x : Part) (ps : List Part) → IsUpperBound part_cmp x ps → IsTop x ps
upper_top x ps a p h = key_le x p (all_there (λ y. is_lt (part_cmp x y) ≡ false) ps p a h)

pub takes_first : (old new : List Part) (x : Part) → IsPermutation old (x ∷ new) → Takes old new x
takes_first old new x perm =
    let back = IsPermutation-sym old (x ∷ new) perm in
    record {
      left_less = λ g. sum_by_popped (λ (p : Part). p.left * g p.number) x old new perm;
      right_less = λ g. sum_by_popped (λ (p : Part). p.right * g p.number) x old new perm;
      size_less = let e = sum_by_popped (λ (p : Part). p.size) x old new perm in omega (arith, e);
      from = λ p h. Contains-permutation (x ∷ new) old p back (there_behind x p new h);
      first = x;
      first_there = Contains-permutation (x ∷ new) old x back (first_there x new);
      first_number = refl;
      first_size = refl;
    }

-- one more of its number
pub takes_more : (old ps new : List Part) (x y z : Part) → Takes old ps x → IsPermutation ps (y ∷ new) → y.number ≡ x.number
    → z.size ≡ x.size → z.number ≡ x.number → z.left ≡ x.left + y.left → z.right ≡ x.right + y.right → Takes old new z
takes_more old ps new x y z h perm same size number left right =
    let back = IsPermutation-sym ps (y ∷ new) perm in
    record {
      left_less = λ g.
          let a = h.left_less g in let b = sum_by_popped (λ (p : Part). p.left * g p.number) y ps new perm in
          let c = ap (λ n. y.left * g n) same in
          let d = ap (λ n. z.left * g n) number ∙ ap (λ n. n * g x.number) left ∙ spread x.left y.left (g x.number) in
          omega (arith, a, b, c, d);
      right_less = λ g.
          let a = h.right_less g in let b = sum_by_popped (λ (p : Part). p.right * g p.number) y ps new perm in
          let c = ap (λ n. y.right * g n) same in
          let d = ap (λ n. z.right * g n) number ∙ ap (λ n. n * g x.number) right ∙ spread x.right y.right (g x.number) in
          omega (arith, a, b, c, d);
      size_less = let e = sum_by_popped (λ (p : Part). p.size) y ps new perm in let a = h.size_less in omega (arith, e, a, size);
      from = λ p k. h.from p (Contains-permutation (y ∷ new) ps p back (there_behind y p new k));
      first = h.first;
      first_there = h.first_there;
      first_number = h.first_number ∙ sym number;
      first_size = h.first_size ∙ sym size;
    }

pub top_less : (ps new : List Part) (x y z : Part) → IsTop x ps → IsPermutation ps (y ∷ new) → z.size ≡ x.size → z.number ≡ x.number → IsTop z new
top_less ps new x y z h perm size number p k =
    let one = h p (Contains-permutation (y ∷ new) ps p (IsPermutation-sym ps (y ∷ new) perm) (there_behind y p new k)) in
    let a = one.0 in
    (omega (arith, a, size), (λ e. let b = one.1 (e ∙ size) in omega (arith, b, number)))

pub is_above : (old ps : List Part) (x : Part) → Agree old → Takes old ps x → IsTop x ps → IsPast x.number ps → IsAbove x ps
is_above old ps x agree takes top past p h = ((top p h).0, go past)
  where
    go : IsPast x.number ps → p.number ≡ x.number → ⊥
    go (inl e) same = let k = h.1 in let l = ap length e in absurd (omega (arith, k, l))
    go (inr q) same =
        let size : p.size ≡ x.size = agree p takes.first (takes.from p h) takes.first_there (same ∙ sym takes.first_number) ∙ takes.first_size in
        let under = upper_top q.0 ps q.3 p h in
        let below = top q.0 q.2 in
        let a = under.0 in let b = below.0 in
        let e : q.0.size ≡ x.size = omega (arith, a, b, size) in
        let c = below.1 e in
        let d = under.1 (size ∙ sym e) in
        q.1 (omega (arith, c, d, same))

pub parts_agree : (nodes : List Tree) (ps : List Part) → AreParts nodes ps → Agree ps
parts_agree nodes ps h p q a b e = let x = (h p a).size in let y = (h q b).size in x ∙ ap (λ n. size_of (tree_at nodes n)) e ∙ sym y

-- ---- the loop

taken_less : (m : Part → ℕ) (w : ℕ) (old rest known : List Part) → sum_by m rest + w ≡ sum_by m old → sum_by m (rest ++ known) + w ≡ sum_by m (old ++ known)
taken_less m w old rest known h =
    let a = sum_by-append m rest known in
    let b = sum_by-append m old known in
    omega (arith, a, b, h)

module _ (nodes : List Tree) (f : ℕ) (old rest : List Part) (x : Part) (takes : Takes old rest x) where
  pub whole_there : AreParts nodes old → IsPart nodes x
  whole_there h =
      let one = h takes.first takes.first_there in
      let there = one.there in
      let size = one.size in
      let number = takes.first_number in
      record { there = omega (arith, there, number); size = sym takes.first_size ∙ size ∙ ap (λ n. size_of (tree_at nodes n)) number }

  pub rest_there : AreParts nodes old → AreParts nodes rest
  rest_there h p k = h p (takes.from p k)

  pub takes_balance : (known : List Part) → Balances nodes f (old ++ known) ↔ BalancesWith nodes f x (rest ++ known)
  takes_balance known = ((λ h t. left t ∙ h t ∙ sym (right t)), (λ h t. sym (left t) ∙ h t ∙ right t))
    where
      left : (t : Tree) → left_sum (holds nodes f t) (rest ++ known) + x.left * holds nodes f t x.number ≡ left_sum (holds nodes f t) (old ++ known)
      left t = taken_less (λ (p : Part). p.left * holds nodes f t p.number) (x.left * holds nodes f t x.number) old rest known (takes.left_less (holds nodes f t))

      right : (t : Tree) → right_sum (holds nodes f t) (rest ++ known) + x.right * holds nodes f t x.number ≡ right_sum (holds nodes f t) (old ++ known)
      right t = taken_less (λ (p : Part). p.right * holds nodes f t p.number) (x.right * holds nodes f t x.number) old rest known (takes.right_less (holds nodes f t))

pub balance_first : (nodes : List Tree) (f a b : ℕ) (none middle new known between noted : List Part) → none ≡ [] → known ≡ []
    → Adds nodes f a 1 0 none middle known between → Adds nodes f b 0 1 middle new between noted
    → Balances nodes f (new ++ noted) ↔ ((t : Tree) → ones t (leaves f (tree_at nodes a)) ≡ ones t (leaves f (tree_at nodes b)))
balance_first nodes f a b empty middle new known between noted is bare one two =
    ((λ h t. let x = h t in let y = left t in let z = right t in omega (arith, x, y, z)), (λ h t. let x = h t in let y = left t in let z = right t in omega (arith, x, y, z)))
  where
    left : (t : Tree) → left_sum (holds nodes f t) (new ++ noted) ≡ holds nodes f t a
    left t =
        let g : ℕ → ℕ = holds nodes f t in
        let x = one.left_more g in let y = two.left_more g in let z = ap (λ ps. left_sum g (ps ++ known)) is ∙ ap (left_sum g) bare in omega (arith, x, y, z)

    right : (t : Tree) → right_sum (holds nodes f t) (new ++ noted) ≡ holds nodes f t b
    right t =
        let g : ℕ → ℕ = holds nodes f t in
        let x = one.right_more g in let y = two.right_more g in let z = ap (λ ps. right_sum g (ps ++ known)) is ∙ ap (right_sum g) bare in omega (arith, x, y, z)

pub none_there : {X : Type 0} (P : X → Type 0) (xs : List X) → xs ≡ [] → (x : X) → Contains xs x → P x
none_there P xs e x h = let k = h.1 in let l = ap length e in absurd (omega (arith, k, l))

pub not_marked : (b : Bool) → not b ≡ true → b ≡ false
not_marked true e = absurd (cc)
not_marked false e = refl

pub if_weighs : {E : Type 0} (r : Result Bool E) (P Q : Type 0) → P ↔ Q → IfOk r (λ b. IsTrue b ↔ P) → IfOk r (λ b. IsTrue b ↔ Q)
if_weighs (Ok b) P Q h k = ((λ t. h.0 (k.0 t)), (λ q. k.1 (h.1 q)))
if_weighs (Err e) P Q h k = k
