-- What is counted, item by item, and that places are few.
use Rattle.std.specs.Prelude.{◌≡◌, ℕ, ◌+◌, ◌<◌, Bool, true, false, cond, if◌then◌else◌, List, [], ◌∷◌, ◌++◌, length, drop, zero, suc}
use Rattle.std.specs.List.{slice_get, filter}
use Rattle.std.specs.Option.{option_map_or}
use Rattle.std.proofs.Common.{ap, arith, length-append}
use Rattle.circ_theory.specs.Theory.{Theory}
use Rattle.circ_special.specs.declared.place.Place.{Place}
use Rattle.circ_proof.specs.Certified.{derivatives_at, due_at, due}
use Rattle.circ_proof.proofs.FewPlaces.{length-due_at}

-- those that pass, from one item on
filter_here : {X : Type 0} (p : X → Bool) (x : X) (xs : List X) → length (filter p (x ∷ xs)) ≡ cond (p x) 1 0 + length (filter p xs)
filter_here p x xs = go (p x)
  where
    go : (b : Bool) → length (if b then x ∷ filter p xs else filter p xs) ≡ cond b 1 0 + length (filter p xs)
    go true = omega arith
    go false = omega arith

filter_more : {X : Type 0} (p : X → Bool) (xs : List X) (i : ℕ) → i < length xs
    → length (filter p (drop i xs)) ≡ cond (option_map_or p (slice_get xs i) false) 1 0 + length (filter p (drop (i + 1) xs))
filter_more p [] i l = absurd (omega (arith, l))
filter_more p (x ∷ xs) zero l = filter_here p x xs
filter_more p (x ∷ xs) (suc i) l = let e : suc i + 1 ≡ suc (i + 1) = omega arith in rw e (filter_more p xs i (omega (arith, l)))

pub counted_more : {X : Type 0} (p : X → Bool) (xs : List X) (i n m total : ℕ) (b : Bool) → i < length xs → b ≡ option_map_or p (slice_get xs i) false
    → n + length (filter p (drop i xs)) ≡ total → m ≡ n + cond b 1 0 → m + length (filter p (drop (i + 1) xs)) ≡ total
counted_more p xs i n m total b l e t f = omega (arith, filter_more p xs i l, ap {B = ℕ} (λ x. cond x 1 0) e, t, f)

-- the certificates that one place more asks for
pub due_more : (th : Theory) (gs : List Place) (g : Place) → length (due th (gs ++ g ∷ [])) ≡ length (due th gs) + length (derivatives_at th g)
due_more th [] g = omega (arith, length-append (due_at th g) [], length-due_at th g)
due_more th (h ∷ gs) g = omega (arith, due_more th gs g, length-append (due_at th h) (due th (gs ++ g ∷ [])), length-append (due_at th h) (due th gs))
