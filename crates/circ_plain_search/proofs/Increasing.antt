-- Places in increasing order: all arguments of a theory's operators, and two such lists with the same places.
use Rattle.std.specs.Prelude.{◌≡◌, ◌≤◌, ◌+◌, ℕ, zero, suc, true, false, List, [], ◌∷◌, ◌++◌, Some, refl}
use Rattle.std.specs.List.{Contains, slice_get}
use Rattle.std.proofs.Common.{ap, sym, subst, ◌∙◌, inl, inr, arith}
use Rattle.std.proofs.lemmas.Bool.Decides.{nat_tests}
use Rattle.std.proofs.lemmas.List.Elements.{Contains-append_left, Contains-append_right, Contains-append_cases}
use Rattle.std.proofs.lemmas.Option.{same_Some}
use Rattle.circ_theory.specs.Signature.{Operator}
use Rattle.circ_theory.specs.Theory.{Theory}
use Rattle.circ_theory.proofs.Casing.{contains_first}
use Rattle.circ_theory.proofs.Weakening.{first_or_rest, in_rest}
use Rattle.circ_special.specs.declared.place.Place.{Place}
use Rattle.circ_special.specs.Special.{IsPlace, IsIncreasing, IsWithin, comes_before, place}
use Rattle.circ_plain_search.specs.Places.{places_from, all_places}
use Rattle.circ_plain_search.specs.Keeps.{Keeps, ends, keeps, drops}
use Rattle.circ_plain_search.proofs.Keeping.{contains_none, pick, kept_from}

-- ---- the order

before_itself : (p : Place) → comes_before p p ≡ false
before_itself p = grind (arith, nat_tests)

before_next : (p q r : Place) → comes_before p q ≡ true → comes_before q r ≡ true → comes_before p r ≡ true
before_next p q r e f = grind (arith, nat_tests)

never_before : (p : Place) → comes_before p p ≡ true → ⊥
never_before p e = let x = before_itself p in absurd (cc)

pub increasing_tail : (p : Place) (ps : List Place) → IsIncreasing (p ∷ ps) → IsIncreasing ps
increasing_tail p [] h = tt
increasing_tail p (q ∷ qs) h = h.1

pub before_all : (p q : Place) (ps : List Place) → IsIncreasing (p ∷ ps) → Contains ps q → comes_before p q ≡ true
before_all p q [] h c = contains_none q c
before_all p q (r ∷ rs) h c =
    let P : Place → Type 0 = λ x. comes_before p x ≡ true in
    pick P r q rs h.0 (λ d. before_next p r q h.0 (before_all r q rs h.1 d)) c

pub increasing_first : (p : Place) (ps : List Place) → ((q : Place) → Contains ps q → comes_before p q ≡ true) → IsIncreasing ps → IsIncreasing (p ∷ ps)
increasing_first p [] h i = tt
increasing_first p (q ∷ qs) h i = (h q (contains_first q qs), i)

pub increasing_append : (ps qs : List Place) → ((p q : Place) → Contains ps p → Contains qs q → comes_before p q ≡ true) → IsIncreasing ps
    → IsIncreasing qs → IsIncreasing (ps ++ qs)
increasing_append [] qs h i j = j
increasing_append (p ∷ ps) qs h i j =
    increasing_first p (ps ++ qs) (λ x c. elim (Contains-append_cases ps qs x c) [
      | inl d ↦ before_all p x ps i d
      | inr d ↦ h p x (contains_first p ps) d
    ]) (increasing_append ps qs (λ x y c d. h x y (in_rest p x ps c) d) (increasing_tail p ps i) j)

-- where some are dropped, the others still increase
pub increasing_kept : (P : Place → Type 0) {ps qs : List Place} → Keeps P ps qs → IsIncreasing ps → IsIncreasing qs
increasing_kept P ends i = tt
increasing_kept P (keeps {xs = ps} {ys = qs} p x k) i =
    increasing_first p qs (λ q c. before_all p q ps i (kept_from P k q c).0) (increasing_kept P k (increasing_tail p ps i))
increasing_kept P (drops {xs = ps} p n k) i = increasing_kept P k (increasing_tail p ps i)

behind_first : (p x : Place) (xs : List Place) → Contains (p ∷ xs) x → comes_before p x ≡ true → Contains xs x
behind_first p x xs c b = elim (first_or_rest p x xs c) [
  | inl e ↦ absurd (never_before x (subst (λ y. comes_before y x ≡ true) e b))
  | inr d ↦ d
]

-- two increasing lists with the same places are the same
pub same_places : (G F : List Place) → IsIncreasing G → IsIncreasing F → IsWithin G F → IsWithin F G → G ≡ F
same_places [] [] i j w v = refl
same_places [] (f ∷ F) i j w v = contains_none f (v f (contains_first f F))
same_places (g ∷ G) [] i j w v = contains_none g (w g (contains_first g G))
same_places (g ∷ G) (f ∷ F) i j w v = go first (same_places G F (increasing_tail g G i) (increasing_tail f F j))
  where
    -- the two first places are one: else each would come before the other
    first : g ≡ f
    first = elim (first_or_rest f g F (w g (contains_first g G))) [
      | inl e ↦ sym e
      | inr c ↦ elim (first_or_rest g f G (v f (contains_first f F))) [
        | inl e ↦ e
        | inr d ↦ absurd (never_before g (before_next g f g (before_all g f G i d) (before_all f g F j c)))
      ]
    ]

    go : g ≡ f → (IsWithin G F → IsWithin F G → G ≡ F) → g ∷ G ≡ f ∷ F
    go e same =
        let others = same
        (λ x c. behind_first f x F (w x (in_rest g x G c)) (subst (λ y. comes_before y x ≡ true) e (before_all g x G i c)))
        (λ x c. behind_first g x G (v x (in_rest f x F c)) (subst (λ y. comes_before y x ≡ true) (sym e) (before_all f x F j c))) in
        ap (λ x. x ∷ G) e ∙ ap (λ xs. f ∷ xs) others

-- ---- they increase

from_place : (f i : ℕ) (ss : List ℕ) (x : Place) → Contains (places_from f i ss) x → (x.op ≡ f) × (i ≤ x.arg)
from_place f i [] x c = contains_none x c
from_place f i (s ∷ ss) x c =
    let P : Place → Type 0 = λ y. (y.op ≡ f) × (i ≤ y.arg) in
    pick P (place f i) x (places_from f (i + 1) ss) (refl, omega arith) (λ d. let r = from_place f (i + 1) ss x d in (r.0, omega (arith, r.1))) c

places_increase : (f i : ℕ) (ss : List ℕ) → IsIncreasing (places_from f i ss)
places_increase f i [] = tt
places_increase f i (s ∷ ss) =
    increasing_first (place f i) (places_from f (i + 1) ss)
    (λ x c. let r = from_place f (i + 1) ss x c in let a = r.0 in let b = r.1 in grind (arith, nat_tests)) (places_increase f (i + 1) ss)

from_operator : (f : ℕ) (os : List Operator) (x : Place) → Contains (all_places f os) x → f ≤ x.op
from_operator f [] x c = contains_none x c
from_operator f (o ∷ os) x c = elim (Contains-append_cases (places_from f 0 o.args) (all_places (f + 1) os) x c) [
  | inl d ↦ omega (arith, (from_place f 0 o.args x d).0)
  | inr d ↦ omega (arith, from_operator (f + 1) os x d)
]

pub all_increase : (f : ℕ) (os : List Operator) → IsIncreasing (all_places f os)
all_increase f [] = tt
all_increase f (o ∷ os) =
    increasing_append (places_from f 0 o.args) (all_places (f + 1) os)
    (λ x y c d. let r = (from_place f 0 o.args x c).0 in let s = from_operator (f + 1) os y d in grind (arith, nat_tests)) (places_increase f 0 o.args)
    (all_increase (f + 1) os)

-- ---- each is there

listed_from : (f k i : ℕ) (ss : List ℕ) (s : ℕ) → slice_get ss i ≡ Some s → Contains (places_from f k ss) (place f (k + i))
listed_from f k i [] s e = absurd (cc)
listed_from f k zero (r ∷ ss) s e =
    let z : k ≡ k + 0 = omega arith in
    subst (λ n. Contains (places_from f k (r ∷ ss)) (place f n)) z (contains_first (place f k) (places_from f (k + 1) ss))
listed_from f k (suc i) (r ∷ ss) s e =
    let z : k + 1 + i ≡ k + suc i = omega arith in
    in_rest (place f k) (place f (k + suc i)) (places_from f (k + 1) ss)
    (subst (λ n. Contains (places_from f (k + 1) ss) (place f n)) z (listed_from f (k + 1) i ss s e))

listed_all : (f i : ℕ) (os : List Operator) (o : Operator) (x : Place) → slice_get os i ≡ Some o → Contains (places_from (f + i) 0 o.args) x
    → Contains (all_places f os) x
listed_all f i [] o x e c = absurd (cc)
listed_all f zero (p ∷ os) o x e c =
    let z : f + 0 ≡ f = omega arith in
    let d : Contains (places_from f 0 o.args) x = subst (λ n. Contains (places_from n 0 o.args) x) z c in
    let P : Operator → Type 0 = λ q. Contains (places_from f 0 q.args) x in
    Contains-append_left (places_from f 0 p.args) (all_places (f + 1) os) x (subst P (sym (same_Some p o e)) d)
listed_all f (suc i) (p ∷ os) o x e c =
    let z : f + suc i ≡ f + 1 + i = omega arith in
    Contains-append_right (places_from f 0 p.args) (all_places (f + 1) os) x
    (listed_all (f + 1) i os o x e (subst (λ n. Contains (places_from n 0 o.args) x) z c))

pub is_listed : (th : Theory) (g : Place) → IsPlace th g → Contains (all_places 0 th.signature.ops) g
is_listed th g p =
    let op : 0 + g.op ≡ g.op = omega arith in
    let arg : 0 + g.arg ≡ g.arg = omega arith in
    listed_all 0 g.op th.signature.ops p.operator g p.listed
    (subst (λ n. Contains (places_from n 0 p.operator.args) g) (sym op)
    (subst (λ n. Contains (places_from g.op 0 p.operator.args) (place g.op n)) arg (listed_from g.op 0 g.arg p.operator.args p.sort p.argument)))
