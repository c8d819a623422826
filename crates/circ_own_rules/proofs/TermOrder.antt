-- How a term stands to another, and whether it is below it.
use Rattle.std.proofs.Common.{◌≡◌, ◌≤◌, ◌<◌, ℕ, zero, suc, ◌+◌, nat_lt, Bool, true, false, ◌==◌, ◌&&◌, ◌||◌, if◌then◌else◌, Ordering, Less, Equal, Greater, List, [], ◌∷◌, drop, length, get_or, refl, ap, sym, ◌∙◌, arith}
use Rattle.std.specs.Ordering.{nat_cmp, ordering_then, is_lt, is_eq}
use Rattle.std.specs.List.{slice_get}
use Rattle.std.proofs.lemmas.Bool.{eq-eqb}
use Rattle.std.proofs.lemmas.Bool.Decides.{nat_tests}
use Rattle.std.proofs.lemmas.List.{drop_all}
use Rattle.circ_term.specs.Tree.{Tree, Trees, Var, App, none, more, size_of, sizes_of, trees_of}
use Rattle.circ_term.specs.Order.{is_same, tree_cmp, trees_cmp}
use Rattle.circ_term.specs.Substitution.{Substitution, instance, instances}
use Rattle.circ_term.proofs.Order.{trees_equal}
use Rattle.circ_term.proofs.Within.{drop_read}
use Rattle.circ_attempt.specs.Below.{is_below, are_below}
use Rattle.circ_own_rules.specs.TermOrder.{term_order, terms_order, order_to, equal_or_greater}

less_then : (a b : Ordering) → is_lt (ordering_then a b) ≡ (is_lt a || (is_eq a && is_lt b))
less_then Less b = refl
less_then Equal b = refl
less_then Greater b = refl

equal_then : (a b : Ordering) → is_eq (ordering_then a b) ≡ (is_eq a && is_eq b)
equal_then Less b = refl
equal_then Equal b = refl
equal_then Greater b = refl

number_less : (n m : ℕ) → is_lt (nat_cmp n m) ≡ nat_lt n m
number_less n m = grind (arith, nat_tests)

number_equal : (n m : ℕ) → is_eq (nat_cmp n m) ≡ (n == m)
number_equal n m = grind (arith, nat_tests)

next_less : (n m : ℕ) → is_lt (nat_cmp (n + 1) (m + 1)) ≡ nat_lt n m
next_less n m = grind (arith, nat_tests)

next_equal : (n m : ℕ) → is_eq (nat_cmp (n + 1) (m + 1)) ≡ (n == m)
next_equal n m = grind (arith, nat_tests)

not_less : (b : Bool) → is_lt (equal_or_greater b) ≡ false
not_less true = refl
not_less false = refl

told : (b : Bool) → is_eq (equal_or_greater b) ≡ b
told true = refl
told false = refl

and_false : (b : Bool) → (b && false) ≡ false
and_false true = refl
and_false false = refl

or_false : (b : Bool) → (b || false) ≡ b
or_false true = refl
or_false false = refl

-- ---- a list of terms beside another

-- behind the first of two that differ nothing counts
apart_then : (a b : Ordering) → (a ≡ Equal → ⊥) → ordering_then a b ≡ a
apart_then Less b h = refl
apart_then Equal b h = absurd (h refl)
apart_then Greater b h = refl

pub more_behind : (ts : List Tree) (n : ℕ) → n < length ts → Greater ≡ terms_order none (trees_of (drop n ts))
more_behind [] n h = absurd (omega (arith, h))
more_behind (t ∷ ts) zero h = refl
more_behind (t ∷ ts) (suc n) h = more_behind ts n (omega (arith, h))

pub none_behind : (ts : List Tree) (n : ℕ) → length ts ≤ n → Equal ≡ terms_order none (trees_of (drop n ts))
none_behind ts n h = rw (drop_all n ts h) refl

standings_read : (t : Tree) (ss : Trees) (ts : List Tree) (i : ℕ)
    → terms_order (more t ss) (trees_of (drop i ts)) ≡ ordering_then (order_to t (slice_get ts i)) (terms_order ss (trees_of (drop (suc i) ts)))
standings_read t ss [] zero = refl
standings_read t ss [] (suc i) = refl
standings_read t ss (u ∷ ts) zero = refl
standings_read t ss (u ∷ ts) (suc i) = standings_read t ss ts i

pub first_stands : (t : Tree) (ss : Trees) (ts : List Tree) (i : ℕ)
    → terms_order (more t ss) (trees_of (drop i ts)) ≡ ordering_then (order_to t (slice_get ts i)) (terms_order ss (trees_of (drop (i + 1) ts)))
first_stands t ss ts i =
    standings_read t ss ts i
    ∙ ap (λ n. ordering_then (order_to t (slice_get ts i)) (terms_order ss (trees_of (drop n ts)))) (let next : suc i ≡ i + 1 = omega arith in next)

row_read : (ts us : List Tree) (i : ℕ) (t : Tree) → i < length ts → t ≡ get_or ts i t
    → terms_order (trees_of (drop i ts)) (trees_of (drop i us)) ≡ ordering_then (order_to t (slice_get us i)) (terms_order (trees_of (drop (i + 1) ts)) (trees_of (drop (i + 1) us)))
row_read ts us i t h e = rw (drop_read ts i t h e) (first_stands t (trees_of (drop (i + 1) ts)) us i)

pub row_apart : (ts us : List Tree) (i : ℕ) (t : Tree) (o : Ordering) → i < length ts → t ≡ get_or ts i t → o ≡ order_to t (slice_get us i) → (o ≡ Equal → ⊥)
    → o ≡ terms_order (trees_of (drop i ts)) (trees_of (drop i us))
row_apart ts us i t o h e is apart =
    let rest = terms_order (trees_of (drop (i + 1) ts)) (trees_of (drop (i + 1) us)) in
    sym (row_read ts us i t h e ∙ ap (λ x. ordering_then x rest) (sym is) ∙ apart_then o rest apart)

pub row_on : (ts us : List Tree) (i : ℕ) (t : Tree) (o : Ordering) → i < length ts → t ≡ get_or ts i t → o ≡ order_to t (slice_get us i) → o ≡ Equal
    → terms_order (trees_of (drop (i + 1) ts)) (trees_of (drop (i + 1) us)) ≡ terms_order (trees_of (drop i ts)) (trees_of (drop i us))
row_on ts us i t o h e is same =
    let rest = terms_order (trees_of (drop (i + 1) ts)) (trees_of (drop (i + 1) us)) in
    sym (row_read ts us i t h e ∙ ap (λ x. ordering_then x rest) (sym is ∙ same))

-- ---- an instance beside a term

then_then : (a b c : Ordering) → ordering_then (ordering_then a b) c ≡ ordering_then a (ordering_then b c)
then_then Less b c = refl
then_then Equal b c = refl
then_then Greater b c = refl

module _ (σ : Substitution) (ps : List Tree) (i : ℕ) (p : Tree) (h : i < length ps) (e : p ≡ get_or ps i p) where
  abbrev rest : Trees
  rest = trees_of (drop (i + 1) ps)

  -- one argument more
  pub instance_on : (us : List Tree) (before o : Ordering) → o ≡ ordering_then before (order_to (instance σ p) (slice_get us i))
      → ordering_then o (terms_order (instances σ rest) (trees_of (drop (i + 1) us)))
      ≡ ordering_then before (terms_order (instances σ (trees_of (drop i ps))) (trees_of (drop i us)))
  instance_on us before o is =
      rw (drop_read ps i p h e, first_stands (instance σ p) (instances σ rest) us i, is)
      (then_then before (order_to (instance σ p) (slice_get us i)) (terms_order (instances σ rest) (trees_of (drop (i + 1) us))))

  pub size_on : sizes_of (instances σ (trees_of (drop i ps))) ≡ size_of (instance σ p) + sizes_of (instances σ rest)
  size_on = rw (drop_read ps i p h e) refl

  pub nodes_on : sizes_of (trees_of (drop i ps)) ≡ size_of p + sizes_of rest
  nodes_on = rw (drop_read ps i p h e) refl

-- ---- what is below

first_decides : (a b : Ordering) → is_lt (ordering_then a b) ≡ (if is_eq a then is_lt b else is_lt a)
first_decides Less b = refl
first_decides Equal b = refl
first_decides Greater b = refl

equal_of : (a : Ordering) → is_eq a ≡ true → a ≡ Equal
equal_of Less e = absurd (cc)
equal_of Equal e = refl
equal_of Greater e = absurd (cc)

parts_equal : (a b c d : Bool) → (c ≡ true → a ≡ true) → ((a && (b && c)) && d) ≡ (b && (c && d))
parts_equal true true c d h = refl
parts_equal true false c d h = refl
parts_equal false b true d h = absurd (let z = h refl in cc)
parts_equal false true false d h = refl
parts_equal false false false d h = refl

mutual
  pub same_stands : (t u : Tree) → is_eq (term_order t u) ≡ is_same t u
  same_stands (Var n s) (Var m k) = refl
  same_stands (Var n s) (App g k us) = refl
  same_stands (App f s ts) (Var m k) = refl
  same_stands (App f s ts) (App g k us) =
      let size : Ordering = nat_cmp (sizes_of ts + 1) (sizes_of us + 1) in
      let op : Ordering = nat_cmp f g in
      let args : Ordering = trees_cmp ts us in
      equal_then (ordering_then size (ordering_then op (terms_order ts us))) (equal_or_greater (s == k))
      ∙ ap (λ b. b && is_eq (equal_or_greater (s == k))) (equal_then size (ordering_then op (terms_order ts us)) ∙ ap (λ b. is_eq size && b) (equal_then op (terms_order ts us)))
      ∙ ap (λ b. (is_eq size && (is_eq op && b)) && is_eq (equal_or_greater (s == k))) (sames_stand ts us)
      ∙ ap (λ b. (is_eq size && (is_eq op && is_eq args)) && b) (told (s == k) ∙ sym (number_equal s k))
      ∙ parts_equal (is_eq size) (is_eq op) (is_eq args) (is_eq (nat_cmp s k))
      (λ x. next_equal (sizes_of ts) (sizes_of us) ∙ eq-eqb (sizes_of ts) (sizes_of us) (ap sizes_of (trees_equal ts us (equal_of args x))))
      ∙ ap (λ b. is_eq op && b) (sym (equal_then args (nat_cmp s k))) ∙ sym (equal_then op (ordering_then args (nat_cmp s k)))

  sames_stand : (ts us : Trees) → is_eq (terms_order ts us) ≡ is_eq (trees_cmp ts us)
  sames_stand none none = refl
  sames_stand none (more u us) = refl
  sames_stand (more t ts) none = refl
  sames_stand (more t ts) (more u us) =
      equal_then (term_order t u) (terms_order ts us) ∙ ap (λ b. b && is_eq (terms_order ts us)) (same_stands t u) ∙ ap (λ b. is_same t u && b) (sames_stand ts us)
      ∙ sym (equal_then (tree_cmp t u) (trees_cmp ts us))

mutual
  pub below_stands : (t u : Tree) → is_lt (term_order t u) ≡ is_below t u
  below_stands (Var n s) (Var m k) = less_then (nat_cmp n m) (nat_cmp s k) ∙ rw (number_less n m, number_equal n m, number_less s k) refl
  below_stands (Var n s) (App g k us) = refl
  below_stands (App f s ts) (Var m k) = refl
  below_stands (App f s ts) (App g k us) =
      let size : Ordering = nat_cmp (sizes_of ts + 1) (sizes_of us + 1) in
      let op : Ordering = nat_cmp f g in
      let all : Ordering = ordering_then size (ordering_then op (terms_order ts us)) in
      less_then all (equal_or_greater (s == k)) ∙ ap (λ b. is_lt all || (is_eq all && b)) (not_less (s == k)) ∙ ap (λ b. is_lt all || b) (and_false (is_eq all)) ∙ or_false (is_lt all)
      ∙ less_then size (ordering_then op (terms_order ts us))
      ∙ rw (less_then op (terms_order ts us), next_less (sizes_of ts) (sizes_of us), next_equal (sizes_of ts) (sizes_of us), number_less f g, number_equal f g, belows_stand ts us) refl

  belows_stand : (ts us : Trees) → is_lt (terms_order ts us) ≡ are_below ts us
  belows_stand none none = refl
  belows_stand none (more u us) = refl
  belows_stand (more t ts) none = refl
  belows_stand (more t ts) (more u us) =
      first_decides (term_order t u) (terms_order ts us)
      ∙ ap (λ b. if is_eq (term_order t u) then is_lt (terms_order ts us) else b) (below_stands t u)
      ∙ ap (λ b. if is_eq (term_order t u) then b else is_below t u) (belows_stand ts us)
      ∙ ap (λ b. if b then are_below ts us else is_below t u) (same_stands t u)
