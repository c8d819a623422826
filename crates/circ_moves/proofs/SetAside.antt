-- Setting the common entries of two sorted lists aside, by one walk of both.
use Rattle.std.proofs.Common.{◌≡◌, ◌+◌, ◌<◌, ℕ, length, drop, get_or, Bool, true, false, Ordering, Less, Equal, Greater, List, [], ◌∷◌, ◌++◌, Option, Some, None, refl, ap, sym, subst, ◌∙◌, append_assoc}
use Rattle.std.specs.List.{AllByRecursion}
use Rattle.std.specs.Ordering.{is_eq, is_lt, ordering_reverse}
use Rattle.std.specs.Option.{option_map, option_map_or}
use Rattle.circ_term.specs.Tree.{Tree}
use Rattle.circ_term.specs.Order.{tree_cmp, is_same, comes_before}
use Rattle.circ_term.proofs.Order.{ranks, same_itself, tree_equal, tree_cmp_total}
use Rattle.circ_term.proofs.Within.{drop_read}
use Rattle.circ_aci.proofs.Deriving.{other_way}
use Rattle.circ_aci.proofs.Settled.{Rises}
use Rattle.circ_content_join.specs.Apart.{Apart, apart, without, with_common, with_left, set_aside}

-- what is set apart behind what was set apart before
abbrev pub beside : Apart → Apart → Apart
beside c d = apart (c.both ++ d.both) (c.left ++ d.left) (c.right ++ d.right)

abbrev with_right : Tree → Apart → Apart
with_right y d = apart d.both d.left (y ∷ d.right)

-- ---- terms that come before others

lesser_differs : (x y : Tree) → comes_before x y ≡ true → is_same x y ≡ false
lesser_differs x y e = go (tree_cmp x y) e
  where
    go : (c : Ordering) → is_lt c ≡ true → is_eq c ≡ false
    go Less e = refl
    go Equal e = absurd (cc)
    go Greater e = absurd (cc)

-- a term that comes before the first of a sorted list is none of it
before_all : (x y : Tree) (ys : List Tree) → comes_before x y ≡ true → Rises (y ∷ ys) → AllByRecursion (λ z. is_same x z ≡ false) (y ∷ ys)
before_all x y [] e r = (lesser_differs x y e, tt)
before_all x y (z ∷ zs) e r = (lesser_differs x y e, before_all x z zs (further (comes_before x z) refl) r.1)
  where
    further : (b : Bool) → comes_before x z ≡ b → comes_before x z ≡ true
    further true d = d
    further false d = absurd (let n = ranks.chain x z y d r.0 in cc)

none_without : (x : Tree) (ys : List Tree) → AllByRecursion (λ z. is_same x z ≡ false) ys → without x ys ≡ None
none_without x [] a = refl
none_without x (y ∷ ys) a = rw (a.0, none_without x ys a.1) refl

-- an entry of the right list that is none of the left one is left over
passed_over : (y : Tree) (xs ys : List Tree) → AllByRecursion (λ x. is_same x y ≡ false) xs → set_aside xs (y ∷ ys) ≡ with_right y (set_aside xs ys)
passed_over y [] ys a = refl
passed_over y (x ∷ xs) ys a = go (without x ys) refl (λ zs. passed_over y xs zs a.1)
  where
    found : Option (List Tree) → Apart
    found o = option_map_or (λ zs. with_common x (set_aside xs zs)) o (with_left x (set_aside xs (y ∷ ys)))

    behind : Option (List Tree) → Apart
    behind o = option_map_or (λ zs. with_common x (set_aside xs zs)) o (with_left x (set_aside xs ys))

    here : without x (y ∷ ys) ≡ option_map (λ zs. y ∷ zs) (without x ys)
    here = rw a.0 refl

    go : (o : Option (List Tree)) → without x ys ≡ o → ((zs : List Tree) → set_aside xs (y ∷ zs) ≡ with_right y (set_aside xs zs))
        → set_aside (x ∷ xs) (y ∷ ys) ≡ with_right y (set_aside (x ∷ xs) ys)
    go None e ih =
        ap found (here ∙ ap (option_map (λ zs. y ∷ zs)) e) ∙ ap (with_left x) (ih ys) ∙ sym (ap (λ o. with_right y (behind o)) e)
    go (Some zs) e ih =
        ap found (here ∙ ap (option_map (λ zs. y ∷ zs)) e) ∙ ap (with_common x) (ih zs) ∙ sym (ap (λ o. with_right y (behind o)) e)

-- ---- one step of the walk

step_left : (x y : Tree) (xs ys : List Tree) → comes_before x y ≡ true → Rises (y ∷ ys) → set_aside (x ∷ xs) (y ∷ ys) ≡ with_left x (set_aside xs (y ∷ ys))
step_left x y xs ys e r =
    ap (λ o. option_map_or (λ zs. with_common x (set_aside xs zs)) o (with_left x (set_aside xs (y ∷ ys)))) (none_without x (y ∷ ys) (before_all x y ys e r))

step_both : (x y : Tree) (xs ys : List Tree) → x ≡ y → set_aside (x ∷ xs) (y ∷ ys) ≡ with_common x (set_aside xs ys)
step_both x y xs ys e =
    let same : is_same x y ≡ true = subst (λ z. is_same x z ≡ true) e (same_itself x) in
    let found : without x (y ∷ ys) ≡ Some ys = rw same refl in
    ap (λ o. option_map_or (λ zs. with_common x (set_aside xs zs)) o (with_left x (set_aside xs (y ∷ ys)))) found

step_right : (x y : Tree) (xs ys : List Tree) → comes_before y x ≡ true → Rises (x ∷ xs) → set_aside (x ∷ xs) (y ∷ ys) ≡ with_right y (set_aside (x ∷ xs) ys)
step_right x y xs ys e r = passed_over y (x ∷ xs) ys (flipped (x ∷ xs) (before_all y x xs e r))
  where
    flipped : (zs : List Tree) → AllByRecursion (λ z. is_same y z ≡ false) zs → AllByRecursion (λ z. is_same z y ≡ false) zs
    flipped [] a = tt
    flipped (z ∷ zs) a = (other_way y z a.0, flipped zs a.1)

pushed : (xs ys : List Tree) (x : Tree) → (xs ++ x ∷ []) ++ ys ≡ xs ++ (x ∷ ys)
pushed xs ys x = append_assoc xs (x ∷ []) ys

-- ---- the same in the walk

module _ (c : Apart) (xs ys : List Tree) (i j : ℕ) (x y : Tree) (a : i < length xs) (b : j < length ys) (r : x ≡ get_or xs i x) (s : y ≡ get_or ys j y) where
  at_left : drop i xs ≡ x ∷ drop (i + 1) xs
  at_left = drop_read xs i x a r

  at_right : drop j ys ≡ y ∷ drop (j + 1) ys
  at_right = drop_read ys j y b s

  both_read : set_aside (drop i xs) (drop j ys) ≡ set_aside (x ∷ drop (i + 1) xs) (y ∷ drop (j + 1) ys)
  both_read = ap (λ zs. set_aside zs (drop j ys)) at_left ∙ ap (set_aside (x ∷ drop (i + 1) xs)) at_right

  pub walk_left : tree_cmp x y ≡ Less → Rises (drop j ys)
      → beside (apart c.both (c.left ++ x ∷ []) c.right) (set_aside (drop (i + 1) xs) (drop j ys)) ≡ beside c (set_aside (drop i xs) (drop j ys))
  walk_left e h =
      let d = set_aside (drop (i + 1) xs) (drop j ys) in
      let q : set_aside (drop i xs) (drop j ys) ≡ with_left x d =
      both_read ∙ step_left x y (drop (i + 1) xs) (drop (j + 1) ys) (ap is_lt e) (subst Rises at_right h) ∙ ap (λ zs. with_left x (set_aside (drop (i + 1) xs) zs)) (sym at_right) in
      ap (λ l. apart (c.both ++ d.both) l (c.right ++ d.right)) (pushed c.left d.left x) ∙ sym (ap (beside c) q)

  pub walk_both : tree_cmp x y ≡ Equal
      → beside (apart (c.both ++ x ∷ []) c.left c.right) (set_aside (drop (i + 1) xs) (drop (j + 1) ys)) ≡ beside c (set_aside (drop i xs) (drop j ys))
  walk_both e =
      let d = set_aside (drop (i + 1) xs) (drop (j + 1) ys) in
      let q : set_aside (drop i xs) (drop j ys) ≡ with_common x d = both_read ∙ step_both x y (drop (i + 1) xs) (drop (j + 1) ys) (tree_equal x y e) in
      ap (λ l. apart l (c.left ++ d.left) (c.right ++ d.right)) (pushed c.both d.both x) ∙ sym (ap (beside c) q)

  pub walk_right : tree_cmp x y ≡ Greater → Rises (drop i xs)
      → beside (apart c.both c.left (c.right ++ y ∷ [])) (set_aside (drop i xs) (drop (j + 1) ys)) ≡ beside c (set_aside (drop i xs) (drop j ys))
  walk_right e h =
      let d = set_aside (drop i xs) (drop (j + 1) ys) in
      let q : set_aside (drop i xs) (drop j ys) ≡ with_right y d =
      both_read ∙ step_right x y (drop (i + 1) xs) (drop (j + 1) ys) (lesser x y e) (subst Rises at_left h) ∙ ap (λ zs. with_right y (set_aside zs (drop (j + 1) ys))) (sym at_left) in
      ap (λ l. apart (c.both ++ d.both) (c.left ++ d.left) l) (pushed c.right d.right y) ∙ sym (ap (beside c) q)
    where
      lesser : (s t : Tree) → tree_cmp s t ≡ Greater → comes_before t s ≡ true
      lesser s t g = ap is_lt (tree_cmp_total.antisymm t s ∙ ap ordering_reverse g)

-- what is behind the first of a sorted list is sorted
pub rises_on : (xs : List Tree) (i : ℕ) (x : Tree) → i < length xs → x ≡ get_or xs i x → Rises (drop i xs) → Rises (drop (i + 1) xs)
rises_on xs i x a e r = tail x (drop (i + 1) xs) (subst Rises (drop_read xs i x a e) r)
  where
    tail : (z : Tree) (zs : List Tree) → Rises (z ∷ zs) → Rises zs
    tail z [] r = tt
    tail z (w ∷ ws) r = r.1

-- where one list is at its end, all else is left over
pub none_left : (xs ys : List Tree) → xs ≡ [] → set_aside xs ys ≡ apart [] xs ys
none_left xs ys e = subst (λ zs. set_aside zs ys ≡ apart [] zs ys) (sym e) refl

pub none_right : (xs ys : List Tree) → ys ≡ [] → set_aside xs ys ≡ apart [] xs ys
none_right xs ys e = subst (λ zs. set_aside xs zs ≡ apart [] xs zs) (sym e) (go xs)
  where
    go : (zs : List Tree) → set_aside zs [] ≡ apart [] zs []
    go [] = refl
    go (z ∷ zs) = ap (with_left z) (go zs)

-- the walk is at the end of one list
pub walk_ends : (c : Apart) (xs ys : List Tree) (whole : Apart) → set_aside xs ys ≡ apart [] xs ys → beside c (set_aside xs ys) ≡ whole
    → apart c.both (c.left ++ xs) (c.right ++ ys) ≡ whole
walk_ends c xs ys whole e h = ap (λ b. apart b (c.left ++ xs) (c.right ++ ys)) (sym (nil_right c.both)) ∙ sym (ap (beside c) e) ∙ h
  where
    nil_right : (zs : List Tree) → zs ++ [] ≡ zs
    nil_right [] = refl
    nil_right (z ∷ zs) = ap (λ r. z ∷ r) (nil_right zs)
