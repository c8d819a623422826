-- A special set has few places, so few certificates are due for it.
use Rattle.std.specs.Prelude.{◌≡◌, ℕ, zero, suc, ◌+◌, ◌*◌, ◌^◌, ◌≤◌, ◌<◌, ◌==◌, ◌&&◌, nat_lt, Bool, true, false, if◌then◌else◌, List, [], ◌∷◌, length, Option, Some, None}
use Rattle.std.specs.List.{slice_get, filter, AllByRecursion}
use Rattle.std.specs.Option.{option_map_or}
use Rattle.std.proofs.Common.{arith, inl, inr, length-append}
use Rattle.std.proofs.lemmas.List.{length-map}
use Rattle.std.proofs.lemmas.Bool.{or_cases, and_parts, ltb-true, eqb-true}
use Rattle.circ_theory.specs.Signature.{Operator}
use Rattle.circ_theory.specs.Theory.{Theory}
use Rattle.circ_theory.specs.WellFormed.{IsWellFormed}
use Rattle.circ_theory.proofs.Rewriting.{contains_at}
use Rattle.circ_special.specs.declared.place.Place.{Place}
use Rattle.circ_special.specs.Special.{IsPlace, IsIncreasing, IsSet, comes_before}
use Rattle.circ_proof.specs.Certified.{derivatives_at, due_at, due}
use Rattle.circ_theory.specs.Fresh.{derivatives_of}

pub slice_bound : {X : Type 0} (xs : List X) (n : ℕ) (x : X) → slice_get xs n ≡ Some x → n < length xs
slice_bound [] n x e = absurd (cc)
slice_bound (y ∷ xs) zero x e = omega arith
slice_bound (y ∷ xs) (suc n) x e = let r = slice_bound xs n x e in omega (arith, r)

-- The numbers of a place are below the limits of theories.
pub record IsLow (g : Place) : Type 0 where
  pub op : g.op < 65536
  pub arg : g.arg < 16

pub place_low : (th : Theory) (g : Place) → IsWellFormed th → IsPlace th g → IsLow g
place_low th g w h =
    let few : length th.signature.ops ≤ 65536 = w.few_ops in
    let op : g.op < length th.signature.ops = slice_bound th.signature.ops g.op h.operator h.listed in
    let short : length h.operator.args ≤ 16 = (w.operators h.operator (contains_at th.signature.ops g.op h.operator h.listed)).few in
    let arg : g.arg < length h.operator.args = slice_bound h.operator.args g.arg h.sort h.argument in
    record { op = omega (arith, few, op); arg = omega (arith, short, arg) }

rises : (g h : Place) → IsLow g → comes_before g h ≡ true → 16 * g.op + g.arg + 1 ≤ 16 * h.op + h.arg
rises g h l e = elim (or_cases (nat_lt g.op h.op) ((g.op == h.op) && nat_lt g.arg h.arg) e) [
  | inl a ↦ omega (arith, ltb-true g.op h.op a, l.arg)
  | inr b ↦ let p = and_parts (g.op == h.op) (nat_lt g.arg h.arg) b in omega (arith, eqb-true g.op h.op p.0, ltb-true g.arg h.arg p.1)
]

few_from : (th : Theory) (g : Place) (gs : List Place) → IsWellFormed th → IsIncreasing (g ∷ gs) → AllByRecursion (IsPlace th) (g ∷ gs)
    → length (g ∷ gs) + (16 * g.op + g.arg) ≤ 1048576
few_from th g [] w i p = let l = place_low th g w p.0 in omega (arith, l.op, l.arg)
few_from th g (h ∷ gs) w i p = omega (arith, few_from th h gs w i.1 p.1, rises g h (place_low th g w p.0) i.0)

few_places : (th : Theory) (gs : List Place) → IsWellFormed th → IsSet th gs → length gs ≤ 1048576
few_places th [] w s = omega arith
few_places th (g ∷ gs) w s = omega (arith, few_from th g gs w s.increasing s.places)

filter_le : {X : Type 0} (p : X → Bool) (xs : List X) → length (filter p xs) ≤ length xs
filter_le p [] = omega arith
filter_le p (x ∷ xs) = go (p x) (filter_le p xs)
  where
    go : (b : Bool) → length (filter p xs) ≤ length xs → length (if b then x ∷ filter p xs else filter p xs) ≤ length (x ∷ xs)
    go true h = omega (arith, h)
    go false h = omega (arith, h)

few_at : (th : Theory) (g : Place) → IsWellFormed th → length (derivatives_at th g) ≤ 256
few_at th g w = go (slice_get th.signature.ops g.op)
  where
    go : (o : Option Operator) → length (option_map_or (λ o. derivatives_of th o.result) o []) ≤ 256
    go None = omega arith
    go (Some o) = let few : length th.derivatives ≤ 256 = w.few_derivatives in omega (arith, few, filter_le (λ d. d.hole == o.result) th.derivatives)

pub length-due_at : (th : Theory) (g : Place) → length (due_at th g) ≡ length (derivatives_at th g)
length-due_at th g = length-map (derivatives_at th g) (λ d. (g, d))

due_le : (th : Theory) (gs : List Place) → IsWellFormed th → length (due th gs) ≤ 256 * length gs
due_le th [] w = omega arith
due_le th (g ∷ gs) w = omega (arith, due_le th gs w, few_at th g w, length-due_at th g, length-append (due_at th g) (due th gs))

-- Few certificates are due.
pub few_due : (th : Theory) (gs : List Place) → IsWellFormed th → IsSet th gs → length (due th gs) < 2 ^ 63
few_due th gs w s = omega (arith, few_places th gs w s, due_le th gs w)
