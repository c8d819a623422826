-- The order of terms is a total order, and only the same term is equal to a term.
use Rattle.std.proofs.Common.{◌≡◌, ℕ, true, false, Ordering, Less, Equal, Greater, sym, ◌∙◌, ap, refl}
use Rattle.std.specs.Ordering.{nat_cmp, ordering_then, ordering_reverse, is_lt, is_eq}
use Rattle.std.specs.Cmp.{then_flip, nat_cmp_is, IsTotalOrder, IsStrictWeakOrder}
use Rattle.std.specs.FinMap.{nat_cmp-IsAntisymmetric}
use Rattle.std.proofs.lemmas.Cmp.{nat_cmp_total}
use Rattle.std.proofs.lemmas.List.Sorted.{ranks_by}
use Rattle.circ_term.specs.Tree.{Tree, Trees, Var, App, none, more}
use Rattle.circ_term.specs.Order.{tree_cmp, trees_cmp, is_same, comes_before, EqualIsSame}

both_flip : (a b c d : Ordering) → a ≡ ordering_reverse c → b ≡ ordering_reverse d → ordering_then a b ≡ ordering_reverse (ordering_then c d)
both_flip a b c d e f = ap (λ x. ordering_then x b) e ∙ ap (ordering_then (ordering_reverse c)) f ∙ then_flip c d

both_equal : (a b : Ordering) → ordering_then a b ≡ Equal → (a ≡ Equal) × (b ≡ Equal)
both_equal Less b e = absurd (cc)
both_equal Equal b e = (refl, e)
both_equal Greater b e = absurd (cc)

number_same : (n : ℕ) → nat_cmp n n ≡ Equal
number_same n = sym (nat_cmp_is n n Equal refl)

mutual
  pub tree_same : (t : Tree) → tree_cmp t t ≡ Equal
  tree_same (Var n s) = rw (number_same n, number_same s) refl
  tree_same (App f s ts) = rw (number_same f, trees_same ts, number_same s) refl

  pub trees_same : (ts : Trees) → trees_cmp ts ts ≡ Equal
  trees_same none = refl
  trees_same (more t ts) = rw (tree_same t, trees_same ts) refl

mutual
  tree_flip : (t u : Tree) → tree_cmp t u ≡ ordering_reverse (tree_cmp u t)
  tree_flip (Var n s) (Var m k) =
      both_flip (nat_cmp n m) (nat_cmp s k) (nat_cmp m n) (nat_cmp k s) (nat_cmp_total.antisymm n m) (nat_cmp_total.antisymm s k)
  tree_flip (Var n s) (App g k us) = refl
  tree_flip (App f s ts) (Var m k) = refl
  tree_flip (App f s ts) (App g k us) =
      both_flip (nat_cmp f g) (ordering_then (trees_cmp ts us) (nat_cmp s k)) (nat_cmp g f) (ordering_then (trees_cmp us ts) (nat_cmp k s))
      (nat_cmp_total.antisymm f g)
      (both_flip (trees_cmp ts us) (nat_cmp s k) (trees_cmp us ts) (nat_cmp k s) (trees_flip ts us) (nat_cmp_total.antisymm s k))

  trees_flip : (ts us : Trees) → trees_cmp ts us ≡ ordering_reverse (trees_cmp us ts)
  trees_flip none none = refl
  trees_flip none (more u us) = refl
  trees_flip (more t ts) none = refl
  trees_flip (more t ts) (more u us) = both_flip (tree_cmp t u) (trees_cmp ts us) (tree_cmp u t) (trees_cmp us ts) (tree_flip t u) (trees_flip ts us)

mutual
  pub tree_equal : (t u : Tree) → tree_cmp t u ≡ Equal → t ≡ u
  tree_equal (Var n s) (Var m k) e =
      let h = both_equal (nat_cmp n m) (nat_cmp s k) e in
      ap (λ x. Var x s) (nat_cmp-IsAntisymmetric n m h.0) ∙ ap (Var m) (nat_cmp-IsAntisymmetric s k h.1)
  tree_equal (Var n s) (App g k us) e = absurd (cc)
  tree_equal (App f s ts) (Var m k) e = absurd (cc)
  tree_equal (App f s ts) (App g k us) e =
      let h = both_equal (nat_cmp f g) (ordering_then (trees_cmp ts us) (nat_cmp s k)) e in
      let i = both_equal (trees_cmp ts us) (nat_cmp s k) h.1 in
      ap (λ x. App x s ts) (nat_cmp-IsAntisymmetric f g h.0) ∙ ap (λ x. App g x ts) (nat_cmp-IsAntisymmetric s k i.1)
      ∙ ap (App g k) (trees_equal ts us i.0)

  pub trees_equal : (ts us : Trees) → trees_cmp ts us ≡ Equal → ts ≡ us
  trees_equal none none e = refl
  trees_equal none (more u us) e = absurd (cc)
  trees_equal (more t ts) none e = absurd (cc)
  trees_equal (more t ts) (more u us) e =
      let h = both_equal (tree_cmp t u) (trees_cmp ts us) e in
      ap (λ x. more x ts) (tree_equal t u h.0) ∙ ap (more u) (trees_equal ts us h.1)

-- a lexicographic order goes on where each of its parts does
both_less : (a b c d x y : Ordering)
    → (a ≡ Less → c ≡ Less → x ≡ Less) → (a ≡ Equal → x ≡ c) → (c ≡ Equal → x ≡ a) → (b ≡ Less → d ≡ Less → y ≡ Less)
    → ordering_then a b ≡ Less → ordering_then c d ≡ Less → ordering_then x y ≡ Less
both_less Less b Less d x y p q r l e f = rw (p refl refl) refl
both_less Less b Equal d x y p q r l e f = rw (r refl) refl
both_less Less b Greater d x y p q r l e f = absurd (cc)
both_less Equal b Less d x y p q r l e f = rw (q refl) refl
both_less Equal b Equal d x y p q r l e f = rw (q refl) (l e f)
both_less Equal b Greater d x y p q r l e f = absurd (cc)
both_less Greater b c d x y p q r l e f = absurd (cc)

number_left : (n m k : ℕ) → nat_cmp n m ≡ Equal → nat_cmp n k ≡ nat_cmp m k
number_left n m k e = ap (λ x. nat_cmp x k) (nat_cmp-IsAntisymmetric n m e)

number_right : (n m k : ℕ) → nat_cmp m k ≡ Equal → nat_cmp n k ≡ nat_cmp n m
number_right n m k e = ap (nat_cmp n) (sym (nat_cmp-IsAntisymmetric m k e))

numbers_less : (n m k s t u : ℕ) → ordering_then (nat_cmp n m) (nat_cmp s t) ≡ Less → ordering_then (nat_cmp m k) (nat_cmp t u) ≡ Less
    → ordering_then (nat_cmp n k) (nat_cmp s u) ≡ Less
numbers_less n m k s t u e f =
    both_less (nat_cmp n m) (nat_cmp s t) (nat_cmp m k) (nat_cmp t u) (nat_cmp n k) (nat_cmp s u)
    (nat_cmp_total.trans n m k) (number_left n m k) (number_right n m k) (nat_cmp_total.trans s t u) e f

mutual
  tree_less : (t u v : Tree) → tree_cmp t u ≡ Less → tree_cmp u v ≡ Less → tree_cmp t v ≡ Less
  tree_less (Var n s) (Var m k) (Var i j) e f = numbers_less n m i s k j e f
  tree_less (Var n s) (Var m k) (App h j vs) e f = refl
  tree_less (Var n s) (App g k us) (Var i j) e f = absurd (cc)
  tree_less (Var n s) (App g k us) (App h j vs) e f = refl
  tree_less (App f s ts) (Var m k) v e q = absurd (cc)
  tree_less (App f s ts) (App g k us) (Var i j) e q = absurd (cc)
  tree_less (App f s ts) (App g k us) (App h j vs) e q =
      both_less (nat_cmp f g) (ordering_then (trees_cmp ts us) (nat_cmp s k))
      (nat_cmp g h) (ordering_then (trees_cmp us vs) (nat_cmp k j))
      (nat_cmp f h) (ordering_then (trees_cmp ts vs) (nat_cmp s j))
      (nat_cmp_total.trans f g h) (number_left f g h) (number_right f g h)
      (both_less (trees_cmp ts us) (nat_cmp s k) (trees_cmp us vs) (nat_cmp k j) (trees_cmp ts vs) (nat_cmp s j)
      (trees_less ts us vs) (λ z. ap (λ x. trees_cmp x vs) (trees_equal ts us z)) (λ z. ap (trees_cmp ts) (sym (trees_equal us vs z)))
      (nat_cmp_total.trans s k j))
      e q

  trees_less : (ts us vs : Trees) → trees_cmp ts us ≡ Less → trees_cmp us vs ≡ Less → trees_cmp ts vs ≡ Less
  trees_less none none vs e f = absurd (cc)
  trees_less none (more u us) none e f = absurd (cc)
  trees_less none (more u us) (more v vs) e f = refl
  trees_less (more t ts) none vs e f = absurd (cc)
  trees_less (more t ts) (more u us) none e f = absurd (cc)
  trees_less (more t ts) (more u us) (more v vs) e f =
      both_less (tree_cmp t u) (trees_cmp ts us) (tree_cmp u v) (trees_cmp us vs) (tree_cmp t v) (trees_cmp ts vs)
      (tree_less t u v) (λ z. ap (λ x. tree_cmp x v) (tree_equal t u z)) (λ z. ap (tree_cmp t) (sym (tree_equal u v z)))
      (trees_less ts us vs) e f

pub tree_cmp_total : IsTotalOrder tree_cmp
tree_cmp_total = record { antisymm = tree_flip; trans = tree_less; congr = λ x y z e. ap (λ v. tree_cmp v z) (tree_equal x y e) }

pub equal_is_same : EqualIsSame
equal_is_same s t = (tree_equal s t, λ e. ap (tree_cmp s) (sym e) ∙ tree_same s)

pub ranks : IsStrictWeakOrder comes_before
ranks = ranks_by tree_cmp_total (λ x. x)

equal_here : (o : Ordering) → is_eq o ≡ true → o ≡ Equal
equal_here Less e = absurd (cc)
equal_here Equal e = refl
equal_here Greater e = absurd (cc)

pub same_here : (s t : Tree) → is_same s t ≡ true → s ≡ t
same_here s t e = tree_equal s t (equal_here (tree_cmp s t) e)

pub same_itself : (t : Tree) → is_same t t ≡ true
same_itself t = ap is_eq (tree_same t)

equal_left : (o : Ordering) → is_lt o ≡ false → is_lt (ordering_reverse o) ≡ false → o ≡ Equal
equal_left Less e f = absurd (cc)
equal_left Equal e f = refl
equal_left Greater e f = absurd (cc)

-- terms of which neither comes before the other are the same
pub same_place : (s t : Tree) → comes_before s t ≡ false → comes_before t s ≡ false → s ≡ t
same_place s t e f = tree_equal s t (equal_left (tree_cmp s t) e (ap is_lt (sym (tree_flip t s)) ∙ f))
