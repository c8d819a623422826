-- Certificates hold or one is the first that fails, and not both.
use Rattle.std.specs.Prelude.{◌≡◌, ◌≤◌, ◌+◌, ℕ, List, [], ◌∷◌, length, refl}
use Rattle.std.proofs.Common.{ap, sym, ◌∙◌, inl, inr, arith}
use Rattle.circ_term.specs.Tree.{Tree}
use Rattle.circ_theory.specs.Theory.{Theory, Derivative}
use Rattle.circ_special.specs.declared.place.Place.{Place}
use Rattle.circ_proof.specs.Plain.{LinkOf}
use Rattle.circ_proof.specs.Certified.{AreCertified, CertificateFails}

module _ (th : Theory) (G : List Place) where
  -- certificates that hold do not fail
  pub certified_or_fails : (xs : List (Place × Derivative)) (lss : List (List (LinkOf Tree))) (n : ℕ) → AreCertified th G xs lss → CertificateFails th G xs lss n → ⊥
  certified_or_fails [] lss n a f = f
  certified_or_fails (x ∷ xs) [] n a f = f
  certified_or_fails (x ∷ xs) (ls ∷ lss) n a (inl f) = f.1 a.0
  certified_or_fails (x ∷ xs) (ls ∷ lss) n a (inr f) = certified_or_fails xs lss f.1 a.1 f.3

  -- one certificate alone is the first that fails
  pub certificate_fails_once : (xs : List (Place × Derivative)) (lss : List (List (LinkOf Tree))) (n m : ℕ) → CertificateFails th G xs lss n
      → CertificateFails th G xs lss m → n ≡ m
  certificate_fails_once [] lss n m f g = absurd f
  certificate_fails_once (x ∷ xs) [] n m f g = absurd f
  certificate_fails_once (x ∷ xs) (ls ∷ lss) n m (inl f) (inl g) = f.0 ∙ sym g.0
  certificate_fails_once (x ∷ xs) (ls ∷ lss) n m (inl f) (inr g) = absurd (f.1 g.0)
  certificate_fails_once (x ∷ xs) (ls ∷ lss) n m (inr f) (inl g) = absurd (g.1 f.0)
  certificate_fails_once (x ∷ xs) (ls ∷ lss) n m (inr f) (inr g) = f.2 ∙ ap (λ k. k + 1) (certificate_fails_once xs lss f.1 g.1 f.3 g.3) ∙ sym g.2

  -- certificates of which none is the first that fails hold, in the sense that they cannot but hold
  pub certified_unless_fails : (xs : List (Place × Derivative)) (lss : List (List (LinkOf Tree))) → length lss ≡ length xs
      → ((n : ℕ) → CertificateFails th G xs lss n → ⊥) → (AreCertified th G xs lss → ⊥) → ⊥
  certified_unless_fails [] [] e f r = r tt
  certified_unless_fails [] (ls ∷ lss) e f r = absurd (omega (arith, e))
  certified_unless_fails (x ∷ xs) [] e f r = absurd (omega (arith, e))
  certified_unless_fails (x ∷ xs) (ls ∷ lss) e f r =
      f 1 (inl (refl, λ c. certified_unless_fails xs lss (omega (arith, e)) (λ n g. f (n + 1) (inr (c, n, refl, g))) (λ a. r (c, a))))

  -- the certificate that fails is one of the certificates
  pub fails_among : (xs : List (Place × Derivative)) (lss : List (List (LinkOf Tree))) (n : ℕ) → CertificateFails th G xs lss n → (1 ≤ n) × (n ≤ length lss)
  fails_among [] lss n f = absurd f
  fails_among (x ∷ xs) [] n f = absurd f
  fails_among (x ∷ xs) (ls ∷ lss) n (inl f) = (omega (arith, f.0), omega (arith, f.0))
  fails_among (x ∷ xs) (ls ∷ lss) n (inr f) = let r = fails_among xs lss f.1 f.3 in (omega (arith, f.2), omega (arith, f.2, r.1))
