-- Which certificate is due next, and whether links are that certificate.
use Rattle.std.specs.Prelude.{◌≡◌, ◌↔◌, ℕ, ◌+◌, ◌==◌, Bool, false, IsTrue, List, [], ◌∷◌, ◌++◌, map, drop, Some}
use Rattle.std.specs.List.{filter, slice_get}
use Rattle.std.specs.Option.{option_map_or}
use Rattle.circ_term.specs.Tree.{Tree}
use Rattle.circ_theory.specs.Signature.{Operator}
use Rattle.circ_theory.specs.Theory.{Theory, Derivative}
use Rattle.circ_special.specs.declared.place.Place.{Place}
use Rattle.circ_special.specs.Special.{IsPlace}
use Rattle.circ_proof.specs.Plain.{LinkOf}
use Rattle.circ_proof.specs.Certified.{Certified, due}
use Rattle.circ_rules.specs.declared.due.Due.{Due}
use Rattle.circ_rules.specs.declared.due.Slot.{Slot}

-- the derivatives with a hole of the sort, from a number on
abbrev pub derivatives_from : Theory → (sort from : ℕ) → List Derivative
derivatives_from th s n = filter (λ d. d.hole == s) (drop n th.derivatives)

-- those of the result sort of a place, from a number on
abbrev pub derivatives_at_from : Theory → Place → (from : ℕ) → List Derivative
derivatives_at_from th g n = option_map_or (λ o. derivatives_from th o.result n) (slice_get th.signature.ops g.op) []

-- what is due at these places, at the first from a derivative's number on
abbrev pub due_from : Theory → List Place → (from : ℕ) → List (Place × Derivative)
due_from th [] n = []
due_from th (g ∷ gs) n = map (λ d. (g, d)) (derivatives_at_from th g n) ++ due th gs

-- what is still due
abbrev pub due_after : Theory → List Place → Due → List (Place × Derivative)
due_after th G a = due_from th (drop a.place G) a.derivative

-- the derivative of number n is the first of these
pub record IsFirst (th : Theory) (sort from n : ℕ) : Type 0 where
  pub derivative : Derivative
  pub listed : slice_get th.derivatives n ≡ Some derivative
  pub hole : derivative.hole ≡ sort
  pub first : derivatives_from th sort from ≡ derivative ∷ derivatives_from th sort (n + 1)

-- the place has no derivative from that number on
abbrev pub NoneAt : Theory → Place → (from : ℕ) → Type 0
NoneAt th g n = derivatives_at_from th g n ≡ []

-- the derivative of number n is the first of the place
pub record IsFirstAt (th : Theory) (g : Place) (from n : ℕ) : Type 0 where
  pub operator : Operator
  pub declared : slice_get th.signature.ops g.op ≡ Some operator
  pub derivative : IsFirst th operator.result from n

-- The slot is the first of what was due, and what is due then comes behind it.
pub record IsNextSlot (th : Theory) (G : List Place) (old : Due) (s : Slot) (new : Due) : Type 0 where
  pub place : IsPlace th s.place
  pub operator : Operator
  pub declared : slice_get th.signature.ops s.place.op ≡ Some operator
  pub derivative : Derivative
  pub listed : slice_get th.derivatives s.derivative ≡ Some derivative
  pub hole : derivative.hole ≡ operator.result
  pub first : due_after th G old ≡ (s.place, derivative) ∷ due_after th G new

-- Whether the links are the certificate that was due first, and that it is due no more. Where none was due they are not, and none is.
pub record CertifiesNext (th : Theory) (G : List Place) (old new : Due) (ls : List (LinkOf Tree)) (holds : Bool) : Type 0 where
  pub next : (x : Place × Derivative) (xs : List (Place × Derivative)) → due_after th G old ≡ x ∷ xs
      → (due_after th G new ≡ xs) × (IsTrue holds ↔ Certified th G x.0 x.1 ls)
  pub none : due_after th G old ≡ [] → (holds ≡ false) × (new ≡ old)
