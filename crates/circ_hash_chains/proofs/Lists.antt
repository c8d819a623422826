-- What is read of a list that was written.
use Rattle.std.specs.Prelude.{◌≡◌, ℕ, zero, suc, ◌<◌, List, [], ◌∷◌, ◌++◌, length, map, replicate, slice_set, Some, refl}
use Rattle.std.specs.List.{slice_get}
use Rattle.std.proofs.Common.{ap, sym, arith}
use Rattle.std.proofs.lemmas.Option.{same_Some}

pub get_front : {X : Type 0} (xs ys : List X) (n : ℕ) (x : X) → slice_get xs n ≡ Some x → slice_get (xs ++ ys) n ≡ Some x
get_front [] ys n x e = absurd (cc)
get_front (z ∷ xs) ys zero x e = e
get_front (z ∷ xs) ys (suc n) x e = get_front xs ys n x e

pub get_back : {X : Type 0} (xs ys : List X) (n : ℕ) (x : X) → n < length xs → slice_get (xs ++ ys) n ≡ Some x → slice_get xs n ≡ Some x
get_back [] ys n x b e = absurd (omega arith)
get_back (z ∷ xs) ys zero x b e = e
get_back (z ∷ xs) ys (suc n) x b e = get_back xs ys n x (omega arith) e

pub get_put : {X : Type 0} (xs : List X) (i : ℕ) (x y : X) → slice_get (slice_set xs i x) i ≡ Some y → x ≡ y
get_put [] i x y g = absurd (cc)
get_put (z ∷ xs) zero x y g = same_Some x y g
get_put (z ∷ xs) (suc i) x y g = get_put xs i x y g

pub get_other : {X : Type 0} (xs : List X) (i j : ℕ) (x y : X) → (i ≡ j → ⊥) → slice_get (slice_set xs i x) j ≡ Some y → slice_get xs j ≡ Some y
get_other [] i j x y h g = g
get_other (z ∷ xs) zero zero x y h g = absurd (h refl)
get_other (z ∷ xs) zero (suc j) x y h g = g
get_other (z ∷ xs) (suc i) zero x y h g = g
get_other (z ∷ xs) (suc i) (suc j) x y h g = get_other xs i j x y (λ e. h (ap suc e)) g

pub get_replicate : (n x i y : ℕ) → slice_get (replicate n x) i ≡ Some y → y ≡ x
get_replicate zero x i y e = absurd (cc)
get_replicate (suc n) x zero y e = sym (same_Some x y e)
get_replicate (suc n) x (suc i) y e = get_replicate n x i y e

pub get_map : {X Y : Type 0} (f : X → Y) (xs : List X) (n : ℕ) (x : X) → slice_get xs n ≡ Some x → slice_get (map f xs) n ≡ Some (f x)
get_map f [] n x e = absurd (cc)
get_map f (z ∷ xs) zero x e = ap (λ y. Some (f y)) (same_Some z x e)
get_map f (z ∷ xs) (suc n) x e = get_map f xs n x e
