-- The derivatives of a sort, from a number on, are gone through one by one.
use Rattle.std.specs.Prelude.{◌≡◌, ◌↔◌, ◌<◌, ◌+◌, ℕ, Bool, true, false, IsTrue, ◌==◌, List, [], ◌∷◌, length}
use Rattle.std.proofs.Common.{ap, sym, subst, ◌∙◌}
use Rattle.std.proofs.lemmas.Bool.{eqb-true}
use Rattle.std.specs.List.{slice_get}
use Rattle.std.specs.Option.{option_map_or}
use Rattle.circ_term.specs.Tree.{Tree}
use Rattle.circ_theory.specs.Theory.{Theory, Derivative}
use Rattle.circ_special.specs.declared.place.Place.{Place}
use Rattle.circ_proof.specs.Plain.{LinkOf}
use Rattle.circ_proof.specs.Certified.{Certified}
use Rattle.circ_rules.specs.Due.{derivatives_from, IsFirst, due_after, IsNextSlot, CertifiesNext}
use Rattle.circ_rules.specs.declared.due.Due.{Due}
use Rattle.circ_rules.specs.declared.due.Slot.{Slot}
use Rattle.circ_proof.proofs.Derivatives.{derivative_at, taken_next, passed_next}

module _ (th : Theory) (s i from : ℕ) (so_far : derivatives_from th s i ≡ derivatives_from th s from) where
  pub first_taken : i < length th.derivatives → option_map_or (λ d. d.hole == s) (slice_get th.derivatives i) false ≡ true → IsFirst th s from i
  first_taken within e =
      let at = derivative_at th.derivatives i within in
      record {
        derivative = at.0;
        listed = at.1.there;
        hole = eqb-true at.0.hole s (sym (ap (λ o. option_map_or (λ d. d.hole == s) o false) at.1.there) ∙ e);
        first = sym so_far ∙ taken_next th.derivatives s i at.0 at.1 e;
      }

  pub first_passed : i < length th.derivatives → option_map_or (λ d. d.hole == s) (slice_get th.derivatives i) false ≡ false
      → derivatives_from th s (i + 1) ≡ derivatives_from th s from
  first_passed within e =
      let at = derivative_at th.derivatives i within in
      sym (passed_next th.derivatives s i at.0 at.1 e) ∙ so_far

-- the links that certify the slot certify what was due first
pub slot_certified : (th : Theory) (G : List Place) (old new : Due) (s : Slot) (ls : List (LinkOf Tree)) (holds : Bool) → (k : IsNextSlot th G old s new)
    → (IsTrue holds ↔ Certified th G s.place k.derivative ls) → CertifiesNext th G old new ls holds
slot_certified th G old new s ls holds k c =
    record {
      next = λ x xs e.
          let same : (s.place, k.derivative) ∷ due_after th G new ≡ x ∷ xs = sym k.first ∙ e in
          let head : (s.place, k.derivative) ≡ x = cc in
          let tail : due_after th G new ≡ xs = cc in
          let P : Place × Derivative → Type 0 = λ y. IsTrue holds ↔ Certified th G y.0 y.1 ls in (tail, subst P head c);
      none = λ e. absurd (let z : (s.place, k.derivative) ∷ due_after th G new ≡ [] = sym k.first ∙ e in cc);
    }
