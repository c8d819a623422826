-- The arguments of operators, one after another.
use Rattle.std.specs.Prelude.{◌≡◌, ◌≤◌, ◌<◌, ◌+◌, ℕ, zero, suc, List, [], ◌∷◌, ◌++◌, length, drop, Option, Some, refl}
use Rattle.std.specs.List.{slice_get}
use Rattle.std.proofs.Common.{ap, sym, subst, ◌∙◌, arith}
use Rattle.std.proofs.Math.ListN.{drop_of_length-le}
use Rattle.circ_theory.specs.Signature.{Operator}
use Rattle.circ_special.specs.Special.{place}
use Rattle.circ_plain_search.specs.Places.{places_from, all_places}
use Rattle.circ_contexts.specs.Candidates.{places_at}

places_length : (f i : ℕ) (ss : List ℕ) → length (places_from f i ss) ≡ length ss
places_length f i [] = refl
places_length f i (s ∷ ss) = ap suc (places_length f (i + 1) ss)

place_there : (f k i : ℕ) (ss : List ℕ) → i < length ss
    → drop i (places_from f k ss) ≡ place f (k + i) ∷ drop (i + 1) (places_from f k ss)
place_there f k i [] h = absurd (omega (arith, h))
place_there f k zero (s ∷ ss) h = let e : k ≡ k + 0 = omega arith in ap (λ n. place f n ∷ places_from f (k + 1) ss) e
place_there f k (suc i) (s ∷ ss) h =
    let e : suc i + 1 ≡ suc (i + 1) = omega arith in
    let n : k + 1 + i ≡ k + suc i = omega arith in
    rw e (place_there f (k + 1) i ss (omega (arith, h)) ∙ ap (λ m. place f m ∷ drop (i + 1) (places_from f (k + 1) ss)) n)

module _ (ops : List Operator) (f : ℕ) (o : Operator) (listed : slice_get ops f ≡ Some o) (i : ℕ) where
  -- the argument of number i comes next
  pub next_place : i < length o.args → drop i (places_at f (slice_get ops f)) ≡ place f i ∷ drop (i + 1) (places_at f (slice_get ops f))
  next_place h =
      let P : Option Operator → Type 0 = λ x. drop i (places_at f x) ≡ place f i ∷ drop (i + 1) (places_at f x) in
      let e : 0 + i ≡ i = omega arith in
      subst P (sym listed) (place_there f 0 i o.args h ∙ ap (λ m. place f m ∷ drop (i + 1) (places_from f 0 o.args)) e)

  -- behind the last
  pub last_place : length o.args ≤ i → drop i (places_at f (slice_get ops f)) ≡ []
  last_place h =
      let P : Option Operator → Type 0 = λ x. drop i (places_at f x) ≡ [] in
      subst P (sym listed) (drop_of_length-le (places_from f 0 o.args) (omega (arith, h, places_length f 0 o.args)))

pub next_operator : (f i : ℕ) (os : List Operator) → i < length os
    → all_places (f + i) (drop i os) ≡ places_at (f + i) (slice_get os i) ++ all_places (f + i + 1) (drop (i + 1) os)
next_operator f i [] h = absurd (omega (arith, h))
next_operator f zero (o ∷ os) h = refl
next_operator f (suc i) (o ∷ os) h =
    let e : suc i + 1 ≡ suc (i + 1) = omega arith in
    let n : f + suc i ≡ f + 1 + i = omega arith in
    rw (e, n) (next_operator (f + 1) i os (omega (arith, h)))
