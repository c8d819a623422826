-- Members of lists.
use Rattle.std.proofs.Common.{◌≡◌, List, [], ◌∷◌, ◌++◌, map, Bool, true, inl, inr, subst, arith}
use Rattle.std.specs.List.{AllByRecursion, Contains, filter}
use Rattle.std.proofs.lemmas.Bool.{cases_Bool}
use Rattle.circ_theory.proofs.Weakening.{first_or_rest, in_rest}
use Rattle.circ_theory.proofs.Casing.{contains_first}

pub nothing : {X C : Type 0} (x : X) → Contains [] x → C
nothing x c = absurd (omega (arith, c.1))

-- what holds of the first and of each of the rest
pub pick : {X : Type 0} (P : X → Type 0) (p g : X) (G : List X) → P p → (Contains G g → P g) → Contains (p ∷ G) g → P g
pick P p g G first rest c = elim (first_or_rest p g G c) [
  | inl e ↦ subst P e first
  | inr d ↦ rest d
]

pub all_of : {X : Type 0} (P : X → Type 0) (xs : List X) (x : X) → AllByRecursion P xs → Contains xs x → P x
all_of P [] x a c = nothing x c
all_of P (y ∷ xs) x a c = pick P y x xs a.0 (λ d. all_of P xs x a.1 d) c

pub in_map : {X Y : Type 0} (f : X → Y) (xs : List X) (x : X) → Contains xs x → Contains (map f xs) (f x)
in_map f [] x c = nothing x c
in_map {X = X} f (y ∷ xs) x c =
    let P : X → Type 0 = λ z. Contains (f y ∷ map f xs) (f z) in
    pick P y x xs (contains_first (f y) (map f xs)) (λ d. in_rest (f y) (f x) (map f xs) (in_map f xs x d)) c

-- an item of a mapped list comes from one of the list
pub from_map : {X Y : Type 0} (f : X → Y) (xs : List X) (y : Y) → Contains (map f xs) y → (x : X) × Contains xs x × (f x ≡ y)
from_map f [] y c = nothing y c
from_map f (x ∷ xs) y c = elim (first_or_rest (f x) y (map f xs) c) [
  | inl e ↦ (x, contains_first x xs, e)
  | inr d ↦ let r = from_map f xs y d in (r.0, in_rest x r.0 xs r.1, r.2)
]

pub in_filter : {X : Type 0} (p : X → Bool) (xs : List X) (x : X) → p x ≡ true → Contains xs x → Contains (filter p xs) x
in_filter p [] x e c = nothing x c
in_filter {X = X} p (y ∷ xs) x e c =
    let P : X → Type 0 = λ z. p z ≡ true → Contains (filter p (y ∷ xs)) z in
    pick P y x xs (λ t. rw t (contains_first y (filter p xs))) (λ d t. elim (cases_Bool (p y)) [
      | inl h ↦ rw h (in_rest y x (filter p xs) (in_filter p xs x t d))
      | inr h ↦ rw h (in_filter p xs x t d)
    ]) c e

pub from_filter : {X : Type 0} (p : X → Bool) (xs : List X) (x : X) → Contains (filter p xs) x → Contains xs x × (p x ≡ true)
from_filter p [] x c = nothing x c
from_filter {X = X} p (y ∷ xs) x c = elim (cases_Bool (p y)) [
  | inl h ↦
      let P : X → Type 0 = λ z. Contains (y ∷ xs) z × (p z ≡ true) in
      pick P y x (filter p xs) (contains_first y xs, h) (λ d. let r = from_filter p xs x d in (in_rest y x xs r.0, r.1)) (rw h at c)
  | inr h ↦ let r = from_filter p xs x (rw h at c) in (in_rest y x xs r.0, r.1)
]

-- an item that goes last, among the mapped items
pub last_first : {X Y : Type 0} (f : X → Y) (xs : List X) (x : X) (y : Y) → Contains (map f (xs ++ x ∷ [])) y → Contains (f x ∷ map f xs) y
last_first f [] x y c = c
last_first {Y = Y} f (z ∷ xs) x y c =
    let P : Y → Type 0 = Contains (f x ∷ f z ∷ map f xs) in
    pick P (f z) y (map f (xs ++ x ∷ []))
    (in_rest (f x) (f z) (f z ∷ map f xs) (contains_first (f z) (map f xs)))
    (λ d. pick P (f x) y (map f xs) (contains_first (f x) (f z ∷ map f xs))
    (λ g. in_rest (f x) y (f z ∷ map f xs) (in_rest (f z) y (map f xs) g)) (last_first f xs x y d)) c
