-- What the marks of an operator make derivable: other groupings, other orders, and no repetitions.
use Rattle.std.proofs.Common.{◌≡◌, ℕ, ◌==◌, true, cond, List, [], ◌∷◌, ◌++◌, zero, suc, Some, None, refl, sym, ap, subst, ◌∙◌, inl}
use Rattle.std.proofs.Common.{inr}
use Rattle.std.specs.List.{AllByRecursion, dedup_from, slice_get}
use Rattle.std.proofs.lemmas.Bool.{cases_Bool, eq-eqb, eqb-true}
use Rattle.circ_term.specs.Tree.{Tree, Var, none, more, sort_of}
use Rattle.circ_term.specs.Order.{is_same, comes_before}
use Rattle.circ_term.specs.Substitution.{Substitution, instance}
use Rattle.circ_term.proofs.Order.{same_here}
use Rattle.circ_theory.specs.Signature.{Signature, Operator, IsWellSorted, HaveSorts, IsSubstitution}
use Rattle.circ_theory.proofs.Rewriting.{none_hold}
use Rattle.circ_theory.specs.Goal.{Goal}
use Rattle.circ_theory.specs.Theory.{Theory, Pair, goal, twice, IsEquation, associative, commutative, idempotent}
use Rattle.circ_theory.specs.Derivable.{Derivable, by_same, by_symmetry, by_chain, by_operator, by_equation, more_args, no_args}
use Rattle.circ_aci.specs.Content.{put_term, sorted_terms}
use Rattle.circ_aci.specs.Canonical.{join}
use Rattle.circ_aci.specs.Operands.{operands}
use Rattle.circ_aci.proofs.Settled.{all_put, all_sorted, all_drop, all_append, IsSome, some_put, some_drop}

-- The operator number f is o, which takes two terms of its own sort.
pub record IsJoiner (th : Theory) (f : ℕ) (o : Operator) : Type 0 where
  pub there : slice_get th.signature.ops f ≡ Some o
  pub args : o.args ≡ o.result ∷ o.result ∷ []

-- a well-sorted term of the sort k
abbrev pub IsOf : Signature → ℕ → Tree → Type 0
IsOf sig k t = (sort_of t ≡ k) × IsWellSorted sig t

abbrev pick : ℕ → Tree → Tree → Tree → Tree
pick zero a b c = a
pick (suc zero) a b c = b
pick (suc (suc n)) a b c = c

-- three terms for the variables 0, 1 and 2 of the sort k
abbrev three : ℕ → Tree → Tree → Tree → Substitution
three k a b c = λ n s. cond (s == k) (pick n a b c) (Var n s)

pick_of : (sig : Signature) (k n : ℕ) (a b c : Tree) → IsOf sig k a → IsOf sig k b → IsOf sig k c → IsOf sig k (pick n a b c)
pick_of sig k zero a b c p q r = p
pick_of sig k (suc zero) a b c p q r = q
pick_of sig k (suc (suc n)) a b c p q r = r

three_fit : (sig : Signature) (k : ℕ) (a b c : Tree) → IsOf sig k a → IsOf sig k b → IsOf sig k c → IsSubstitution sig (three k a b c)
three_fit sig k a b c p q r n s h = elim (cases_Bool (s == k)) [
  | inl same ↦ let w = pick_of sig k n a b c p q r in rw same (w.0 ∙ sym (eqb-true s k same), w.1)
  | inr other ↦ rw other (refl, h)
]

-- a term on which f does not stand
abbrev pub IsLeaf : Signature → (f k : ℕ) → Tree → Type 0
IsLeaf sig f k t = IsOf sig k t × (operands f t ≡ None)

-- A term of the sort k, and its leaves under f.
pub data HasLeaves (sig : Signature) (f k : ℕ) : Tree → List Tree → Type 0 where
  leaf : (t : Tree) → IsLeaf sig f k t → HasLeaves sig f k t (t ∷ [])
  node : {a b : Tree} {xs ys : List Tree} → HasLeaves sig f k a xs → HasLeaves sig f k b ys → HasLeaves sig f k (twice f k a b) (xs ++ ys)

pub all_leaf : (sig : Signature) (f k : ℕ) {t : Tree} {xs : List Tree} → HasLeaves sig f k t xs → AllByRecursion (IsLeaf sig f k) xs
all_leaf sig f k (leaf t p) = (p, tt)
all_leaf sig f k (node {xs = xs} {ys = ys} a b) = all_append (IsLeaf sig f k) xs ys (all_leaf sig f k a) (all_leaf sig f k b)

leaves_of : (sig : Signature) (f k : ℕ) (xs : List Tree) → AllByRecursion (IsLeaf sig f k) xs → AllByRecursion (IsOf sig k) xs
leaves_of sig f k [] a = tt
leaves_of sig f k (x ∷ xs) a = (a.0.0, leaves_of sig f k xs a.1)

append_some : (xs ys : List Tree) → IsSome ys → IsSome (xs ++ ys)
append_some [] ys s = s
append_some (x ∷ xs) ys s = tt

pub leaves_some : (sig : Signature) (f k : ℕ) {t : Tree} {xs : List Tree} → HasLeaves sig f k t xs → IsSome xs
leaves_some sig f k (leaf t p) = tt
leaves_some sig f k (node {xs = xs} {ys = ys} a b) = append_some xs ys (leaves_some sig f k b)

module _ (th : Theory) (H : List Pair) (f : ℕ) (o : Operator) (j : IsJoiner th f o) where
  -- the terms on which f stands
  abbrev Fit : Tree → Type 0
  Fit t = IsOf th.signature o.result t

  abbrev All : List Tree → Type 0
  All xs = AllByRecursion Fit xs

  abbrev on_two : Tree → Tree → Tree
  on_two s t = twice f o.result s t

  abbrev joined : List Tree → Tree
  joined xs = join f o.result xs

  abbrev Leads : Tree → Tree → Type 0
  Leads s t = Derivable th H s t

  pub two_fit : (a b : Tree) → Fit a → Fit b → Fit (on_two a b)
  two_fit a b p q =
      let P : List ℕ → Type 0 = HaveSorts th.signature (more a (more b none)) in
      (refl, (o, j.there, refl, subst P (sym j.args) (p.0, p.1, (q.0, q.1, tt))))

  pub same : (a : Tree) → Fit a → Leads a a
  same a p = by_same a p.1

  both : (a b c d : Tree) → Fit a → Fit b → Fit c → Fit d → Leads a c → Leads b d → Leads (on_two a b) (on_two c d)
  both a b c d p q r s x y = by_operator f o.result (two_fit a b p q).1 (two_fit c d r s).1 (more_args x (more_args y no_args))

  -- what stands on the right of x
  right : (x r q : Tree) → Fit x → Fit r → Fit q → Leads r q → Leads (on_two x r) (on_two x q)
  right x r q p s t d = both x r x q p s p t (same x p) d

  -- ---- the equations of the marks

  by_instance : (e : Goal) → e.conds ≡ [] → IsEquation th e → (a b c : Tree) → Fit a → Fit b → Fit c
      → Leads (instance (three o.result a b c) e.left) (instance (three o.result a b c) e.right)
  by_instance e plain i a b c p q r =
      by_equation e (three o.result a b c) i (three_fit th.signature o.result a b c p q r) (none_hold th H (three o.result a b c) e.conds plain)

  itself : o.result == o.result ≡ true
  itself = eq-eqb o.result o.result refl

  regroup : o.assoc ≡ true → (a b c : Tree) → Fit a → Fit b → Fit c → Leads (on_two (on_two a b) c) (on_two a (on_two b c))
  regroup e a b c p q r =
      let x = Var 0 o.result in
      let y = Var 1 o.result in
      let z = Var 2 o.result in
      rw itself at
      (by_instance (goal [] (on_two (on_two x y) z) (on_two x (on_two y z))) refl (associative f o j.there e) a b c p q r)

  pub exchange : o.comm ≡ true → (a b : Tree) → Fit a → Fit b → Leads (on_two a b) (on_two b a)
  exchange e a b p q =
      let x = Var 0 o.result in
      let y = Var 1 o.result in
      rw itself at (by_instance (goal [] (on_two x y) (on_two y x)) refl (commutative f o j.there e) a b b p q q)

  pub merge : o.idem ≡ true → (a : Tree) → Fit a → Leads (on_two a a) a
  merge e a p =
      let x = Var 0 o.result in
      rw itself at (by_instance (goal [] (on_two x x) x) refl (idempotent f o j.there e) a a a p p p)

  -- ---- terms joined from the right

  join_fit : (x : Tree) (xs : List Tree) → Fit x → All xs → Fit (joined (x ∷ xs))
  join_fit x [] p a = p
  join_fit x (y ∷ ys) p a = two_fit x (joined (y ∷ ys)) p (join_fit y ys a.0 a.1)

  pub some_fit : (xs : List Tree) → IsSome xs → All xs → Fit (joined xs)
  some_fit [] s a = absurd s
  some_fit (x ∷ xs) s a = join_fit x xs a.0 a.1

  join_more : (x : Tree) (xs : List Tree) → IsSome xs → joined (x ∷ xs) ≡ on_two x (joined xs)
  join_more x [] s = absurd s
  join_more x (y ∷ ys) s = refl

  -- what is behind the first term
  behind : (x : Tree) (xs ys : List Tree) → IsSome xs → IsSome ys → Fit x → All xs → All ys → Leads (joined xs) (joined ys)
      → Leads (joined (x ∷ xs)) (joined (x ∷ ys))
  behind x xs ys s t p a b d =
      rw (join_more x xs s, join_more x ys t) (right x (joined xs) (joined ys) p (some_fit xs s a) (some_fit ys t b) d)

  -- ---- another order

  exchange_first : o.assoc ≡ true → o.comm ≡ true → (x y r : Tree) → Fit x → Fit y → Fit r
      → Leads (on_two x (on_two y r)) (on_two y (on_two x r))
  exchange_first e c x y r p q h =
      by_chain (on_two (on_two x y) r) (by_symmetry (regroup e x y r p q h))
      (by_chain (on_two (on_two y x) r)
      (both (on_two x y) r (on_two y x) r (two_fit x y p q) h (two_fit y x q p) h (exchange c x y p q) (same r h))
      (regroup e y x r q p h))

  put_leads : o.assoc ≡ true → o.comm ≡ true → (x : Tree) (ys : List Tree) → Fit x → All ys → Leads (joined (x ∷ ys)) (joined (put_term x ys))
  put_leads e c x [] p a = same x p
  put_leads e c x (y ∷ []) p a = elim (cases_Bool (comes_before y x)) [
    | inl before ↦ rw before (exchange c x y p a.0)
    | inr after ↦ rw after (same (on_two x y) (two_fit x y p a.0))
  ]
  put_leads e c x (y ∷ z ∷ zs) p a =
      let put = put_term x (z ∷ zs) in
      let step = put_leads e c x (z ∷ zs) p a.1 in
      let r : Fit (joined (z ∷ zs)) = join_fit z zs a.1.0 a.1.1 in
      let done : All put = all_put Fit x (z ∷ zs) p a.1 in
      elim (cases_Bool (comes_before y x)) [
        | inl before ↦ rw before (by_chain (on_two y (joined (x ∷ z ∷ zs))) (exchange_first e c x y (joined (z ∷ zs)) p a.0 r)
            (behind y (x ∷ z ∷ zs) put tt (some_put x (z ∷ zs)) a.0 (p, a.1) done step))
        | inr after ↦ rw after (same (joined (x ∷ y ∷ z ∷ zs)) (join_fit x (y ∷ z ∷ zs) p a))
      ]

  pub sorted_leads : o.assoc ≡ true → o.comm ≡ true → (x : Tree) (xs : List Tree) → Fit x → All xs
      → Leads (joined (x ∷ xs)) (joined (sorted_terms (x ∷ xs)))
  sorted_leads e c x [] p a = same x p
  sorted_leads e c x (y ∷ ys) p a =
      let rest = sorted_terms (y ∷ ys) in
      let fit : All rest = all_sorted Fit (y ∷ ys) a in
      by_chain (joined (x ∷ rest))
      (behind x (y ∷ ys) rest tt (some_put y (sorted_terms ys)) p a fit (sorted_leads e c y ys a.0 a.1))
      (put_leads e c x rest p fit)

  -- ---- no repetitions

  merge_first : o.assoc ≡ true → o.idem ≡ true → (x : Tree) (ys : List Tree) → Fit x → All ys
      → Leads (joined (x ∷ x ∷ ys)) (joined (x ∷ ys))
  merge_first e i x [] p a = merge i x p
  merge_first e i x (y ∷ ys) p a =
      let r : Fit (joined (y ∷ ys)) = join_fit y ys a.0 a.1 in
      by_chain (on_two (on_two x x) (joined (y ∷ ys))) (by_symmetry (regroup e x x (joined (y ∷ ys)) p p r))
      (both (on_two x x) (joined (y ∷ ys)) x (joined (y ∷ ys)) (two_fit x x p p) r p r (merge i x p) (same (joined (y ∷ ys)) r))

  pub drop_leads : o.assoc ≡ true → o.idem ≡ true → (x : Tree) (xs : List Tree) → Fit x → All xs
      → Leads (joined (x ∷ xs)) (joined (dedup_from is_same x xs))
  drop_leads e i x [] p a = same x p
  drop_leads e i x (y ∷ ys) p a = elim (cases_Bool (is_same y x)) [
    | inl repeated ↦ rw repeated
        (let P : Tree → Type 0 = λ z. Leads (joined (x ∷ z ∷ ys)) (joined (dedup_from is_same x ys)) in
        subst P (sym (same_here y x repeated)) (by_chain (joined (x ∷ ys)) (merge_first e i x ys p a.1) (drop_leads e i x ys p a.1)))
    | inr other ↦ rw other
        (behind x (y ∷ ys) (dedup_from is_same y ys) tt (some_drop y ys) p a (all_drop Fit y ys a.0 a.1) (drop_leads e i y ys a.0 a.1))
  ]

  -- ---- other groupings

  -- the terms before r, each joined to what follows
  abbrev over : List Tree → Tree → Tree
  over [] r = r
  over (x ∷ xs) r = on_two x (over xs r)

  over_fit : (xs : List Tree) (r : Tree) → All xs → Fit r → Fit (over xs r)
  over_fit [] r a p = p
  over_fit (x ∷ xs) r a p = two_fit x (over xs r) a.0 (over_fit xs r a.1 p)

  over-append : (xs ys : List Tree) (r : Tree) → over (xs ++ ys) r ≡ over xs (over ys r)
  over-append [] ys r = refl
  over-append (x ∷ xs) ys r = ap (on_two x) (over-append xs ys r)

  over_leads : (xs : List Tree) (r q : Tree) → All xs → Fit r → Fit q → Leads r q → Leads (over xs r) (over xs q)
  over_leads [] r q a p s d = d
  over_leads (x ∷ xs) r q a p s d =
      right x (over xs r) (over xs q) a.0 (over_fit xs r a.1 p) (over_fit xs q a.1 s) (over_leads xs r q a.1 p s d)

  over-join : (xs ys : List Tree) → IsSome ys → over xs (joined ys) ≡ joined (xs ++ ys)
  over-join [] ys s = refl
  over-join (x ∷ xs) ys s = ap (on_two x) (over-join xs ys s) ∙ sym (join_more x (xs ++ ys) (append_some xs ys s))

  abbrev Leaves : Tree → List Tree → Type 0
  Leaves t xs = HasLeaves th.signature f o.result t xs

  pub leaves_fit : {t : Tree} {xs : List Tree} → Leaves t xs → All xs
  leaves_fit {xs = xs} d = leaves_of th.signature f o.result xs (all_leaf th.signature f o.result d)

  pub whole_fit : {t : Tree} {xs : List Tree} → Leaves t xs → Fit t
  whole_fit (leaf t p) = p.0
  whole_fit (node {a = a} {b = b} x y) = two_fit a b (whole_fit x) (whole_fit y)

  over_grouped : o.assoc ≡ true → {t : Tree} {xs : List Tree} → Leaves t xs → (r : Tree) → Fit r → Leads (on_two t r) (over xs r)
  over_grouped e (leaf t p) r q = same (on_two t r) (two_fit t r p.0 q)
  over_grouped e (node {a = a} {b = b} {xs = xs} {ys = ys} x y) r q =
      let pa = whole_fit x in
      let pb = whole_fit y in
      let br = over_fit ys r (leaves_fit y) q in
      rw (over-append xs ys r)
      (by_chain (on_two a (on_two b r)) (regroup e a b r pa pb q)
      (by_chain (on_two a (over ys r))
      (right a (on_two b r) (over ys r) pa (two_fit b r pb q) br (over_grouped e y r q))
      (over_grouped e x (over ys r) br)))

  -- a term and its leaves joined from the right
  pub leaves_lead : o.assoc ≡ true → {t : Tree} {xs : List Tree} → Leaves t xs → Leads t (joined xs)
  leaves_lead e (leaf t p) = same t p.0
  leaves_lead e (node {a = a} {b = b} {xs = xs} {ys = ys} x y) =
      let pb = whole_fit y in
      let some = leaves_some th.signature f o.result y in
      let joined_y = some_fit ys some (leaves_fit y) in
      rw (← over-join xs ys some)
      (by_chain (over xs b) (over_grouped e x b pb) (over_leads xs b (joined ys) (leaves_fit x) pb joined_y (leaves_lead e y)))
