-- Every theory has a text: only the finitely many hidden sorts may have no experiment, so that some test tells which have none.
use Rattle.std.proofs.Common.{◌≡◌, ◌≢◌, ◌⊎◌, ◌↔◌, ℕ, zero, suc, List, [], ◌∷◌, Bool, true, false, if◌then◌else◌, inl, inr, refl, sym, ap, ◌∙◌, subst, arith}
use Rattle.std.specs.List.{Contains}
use Rattle.std.proofs.Math.Dec.{eqb}
use Rattle.std.proofs.lemmas.Bool.Decides.{eqb_tells}
use Rattle.circ_theory.specs.Theory.{Theory, Derivative}
use Rattle.circ_show.specs.Observed.{IsUnobserved}
use Rattle.circ_show.specs.TheoryText.{IsTheoryText, text_of_theory}

-- the number is the hole's sort of a derivative of the list
abbrev HasHole : List Derivative → ℕ → Type 0
HasHole ds s = (d : Derivative) × (Contains ds d × (d.hole ≡ s))

-- the test is true of the holes' sorts of which U holds
abbrev Tells : (ℕ → Type 0) → List Derivative → (ℕ → Bool) → Type 0
Tells U ds test = (s : ℕ) → (test s ≡ true) ↔ (HasHole ds s × U s)

-- the test, and true of one number more
abbrev with_number : ℕ → (ℕ → Bool) → ℕ → Bool
with_number n test s = if eqb s n then true else test s

later : (d : Derivative) (ds : List Derivative) (s : ℕ) → HasHole ds s → HasHole (d ∷ ds) s
later d ds s (x, ((k, l, e), h)) = (x, ((suc k, omega (arith, l), e), h))

first_or_later : (d : Derivative) (ds : List Derivative) (s : ℕ) → HasHole (d ∷ ds) s → (d.hole ≡ s) ⊎ HasHole ds s
first_or_later d ds s (x, ((zero, l, e), h)) = inl (ap (λ y. y.hole) e ∙ h)
first_or_later d ds s (x, ((suc k, l, e), h)) = inr (x, ((k, omega (arith, l), e), h))

module _ (U : ℕ → Type 0) (d : Derivative) (ds : List Derivative) (test : ℕ → Bool) (tells : Tells U ds test) where
  told_with : U d.hole → Tells U (d ∷ ds) (with_number d.hole test)
  told_with u s = go (eqb_tells s d.hole)
    where
      go : ((eqb s d.hole ≡ true) × (s ≡ d.hole)) ⊎ ((eqb s d.hole ≡ false) × (s ≢ d.hole)) → (with_number d.hole test s ≡ true) ↔ (HasHole (d ∷ ds) s × U s)
      go (inl (b, e)) = (λ q. ((d, ((zero, omega arith, refl), sym e)), subst U (sym e) u), λ h. rw b refl)
      go (inr (b, other)) = (
        λ q. let q2 : test s ≡ true = rw b at q in let r = (tells s).0 q2 in (later d ds s r.0, r.1),
        λ h. rw b (here (first_or_later d ds s h.0) h.1),
      )
        where
          here : (d.hole ≡ s) ⊎ HasHole ds s → U s → test s ≡ true
          here (inl e) h = absurd (other (sym e))
          here (inr r) h = (tells s).1 (r, h)

  told_without : (U d.hole → ⊥) → Tells U (d ∷ ds) test
  told_without refuted s = (λ q. let r = (tells s).0 q in (later d ds s r.0, r.1), λ h. here (first_or_later d ds s h.0) h.1)
    where
      here : (d.hole ≡ s) ⊎ HasHole ds s → U s → test s ≡ true
      here (inl e) h = absurd (refuted (subst U (sym e) h))
      here (inr r) h = (tells s).1 (r, h)

tests : (U : ℕ → Type 0) (ds : List Derivative) → ((test : ℕ → Bool) → Tells U ds test → ⊥) → ⊥
tests U [] none_is = none_is (λ s. false) (λ s. (λ e. absurd (cc), λ h. absurd (omega (arith, h.0.1.0.1))))
tests U (d ∷ ds) none_is =
    tests U ds (λ test tells. none_is test (told_without U d ds test tells (λ u. none_is (with_number d.hole test) (told_with U d ds test tells u))))

pub has_text : (th : Theory) → ((text : List ℕ) → IsTheoryText th text → ⊥) → ⊥
has_text th none_is = tests (IsUnobserved th) th.derivatives (λ test tells. none_is (text_of_theory th test) (record {
  unobserved = test;
  tells = λ s. (λ e. ((tells s).0 e).1, λ u. (tells s).1 ((u.hidden.derivative, (u.hidden.listed, u.hidden.hole)), u));
  is = refl;
}))
