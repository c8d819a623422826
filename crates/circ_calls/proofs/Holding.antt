-- Certificates that are seen to hold, one after another.
use Rattle.std.proofs.Common.{◌≡◌, ◌≤◌, ◌<◌, ◌+◌, ℕ, zero, suc, Bool, true, false, List, [], ◌∷◌, map, length, drop, get_or, Vec, Global}
use Rattle.std.proofs.Common.{inl, inr, refl, ap, sym, subst, arith}
use Rattle.std.specs.List.{AllByRecursion}
use Rattle.std.proofs.lemmas.List.{drop_all}
use Rattle.circ_term.specs.Tree.{Tree}
use Rattle.circ_term.proofs.Within.{drop_read}
use Rattle.circ_theory.specs.Theory.{Theory, Derivative}
use Rattle.circ_special.specs.declared.place.Place.{Place}
use Rattle.circ_proof.specs.declared.links.Link.{Link}
use Rattle.circ_proof.specs.Plain.{LinkOf, plain_links}
use Rattle.circ_proof.specs.PlainProof.{plain_certificates}
use Rattle.circ_proof.specs.Link.{AllOfLinks, resolved_links}
use Rattle.circ_proof.specs.Certified.{due, AreCertified, CertificateFails}
use Rattle.circ_rules.specs.Due.{due_after, CertifiesNext}
use Rattle.circ_rules.specs.declared.due.Due.{Due}

-- links with the table's terms for their numbers
abbrev pub resolved : (table : List Tree) → List (List (LinkOf ℕ)) → List (List (LinkOf Tree))
resolved table lss = map (resolved_links table) lss

-- The first certificates hold, and ys is still due: those behind them decide.
pub record HoldSoFar (th : Theory) (G : List Place) (whole rest : List (List (LinkOf Tree))) (done : ℕ) (ys : List (Place × Derivative)) : Type 0 where
  pub count : length rest ≡ length ys
  pub all : AreCertified th G ys rest → AreCertified th G (due th G) whole
  pub first : (n : ℕ) → CertificateFails th G ys rest n → CertificateFails th G (due th G) whole (done + n)

pub none_held : (th : Theory) (G : List Place) (whole : List (List (LinkOf Tree))) (ys : List (Place × Derivative)) → ys ≡ due th G → length whole ≡ length (due th G)
    → HoldSoFar th G whole whole 0 ys
none_held th G whole ys e l =
    let z : (n : ℕ) → n ≡ 0 + n = λ n. omega arith in
    subst (HoldSoFar th G whole whole 0) (sym e) (record {
      count = l;
      all = λ a. a;
      first = λ n f. subst (CertificateFails th G (due th G) whole) (z n) f;
    })

module _ (th : Theory) (G : List Place) (whole : List (List (LinkOf Tree))) (ls : List (LinkOf Tree)) (rest : List (List (LinkOf Tree))) (done : ℕ)
    (old new : Due) (holds : Bool) (told : CertifiesNext th G old new ls holds) where
  one_held : (ys : List (Place × Derivative)) → due_after th G old ≡ ys → holds ≡ true → HoldSoFar th G whole (ls ∷ rest) done ys
      → HoldSoFar th G whole rest (done + 1) (due_after th G new)
  one_held [] e t h = absurd (omega (arith, h.count))
  one_held (x ∷ xs) e t h =
      let n = told.next x xs e in
      let c = n.1.0 t in
      subst (HoldSoFar th G whole rest (done + 1)) (sym n.0) (record {
        count = omega (arith, h.count);
        all = λ a. h.all (c, a);
        first = λ m f.
            let s : done + (m + 1) ≡ (done + 1) + m = omega arith in
            subst (CertificateFails th G (due th G) whole) s (h.first (m + 1) (inr (c, m, refl, f)));
      })

  one_failed : (ys : List (Place × Derivative)) → due_after th G old ≡ ys → holds ≡ false → HoldSoFar th G whole (ls ∷ rest) done ys
      → CertificateFails th G (due th G) whole (done + 1)
  one_failed [] e t h = absurd (omega (arith, h.count))
  one_failed (x ∷ xs) e t h = let n = told.next x xs e in h.first 1 (inl (refl, λ c. absurd (let z = n.1.1 c in cc)))

  pub held_next : holds ≡ true → HoldSoFar th G whole (ls ∷ rest) done (due_after th G old) → HoldSoFar th G whole rest (done + 1) (due_after th G new)
  held_next t h = one_held (due_after th G old) refl t h

  pub held_not : holds ≡ false → HoldSoFar th G whole (ls ∷ rest) done (due_after th G old) → CertificateFails th G (due th G) whole (done + 1)
  held_not t h = one_failed (due_after th G old) refl t h

pub all_held : (th : Theory) (G : List Place) (whole : List (List (LinkOf Tree))) (done : ℕ) (ys : List (Place × Derivative)) → HoldSoFar th G whole [] done ys
    → AreCertified th G (due th G) whole
all_held th G whole done [] h = h.all tt
all_held th G whole done (x ∷ xs) h = absurd (omega (arith, h.count))

-- ---- certificates, read by their numbers

-- those from one on
abbrev pub from : (table : List Tree) → List (Vec (Link ℕ) Global) → ℕ → List (List (LinkOf Tree))
from table vs i = resolved table (plain_certificates (drop i vs))

pub read : (table : List Tree) (vs : List (Vec (Link ℕ) Global)) (i : ℕ) (v : Vec (Link ℕ) Global) → i < length vs → v ≡ get_or vs i v
    → from table vs i ≡ resolved_links table (plain_links v.items) ∷ from table vs (i + 1)
read table vs i v h e = ap (λ xs. resolved table (plain_certificates xs)) (drop_read vs i v h e)

pub none_left : (table : List Tree) (vs : List (Vec (Link ℕ) Global)) (i : ℕ) → length vs ≤ i → from table vs i ≡ []
none_left table vs i h = ap (λ xs. resolved table (plain_certificates xs)) (drop_all i vs h)

pub in_table : (n : ℕ) (vs : List (Vec (Link ℕ) Global)) (i : ℕ) (v : Vec (Link ℕ) Global) → i < length vs → v ≡ get_or vs i v
    → AllByRecursion (AllOfLinks (λ m. m < n)) (plain_certificates vs) → AllOfLinks (λ m. m < n) (plain_links v.items)
in_table n [] i v h e a = absurd (omega (arith, h))
in_table n (w ∷ vs) zero v h e a = let P : Vec (Link ℕ) Global → Type 0 = λ x. AllOfLinks (λ m. m < n) (plain_links x.items) in subst P (sym e) a.0
in_table n (w ∷ vs) (suc i) v h e a = in_table n vs i v (omega (arith, h)) e a.1

pub counted : (table : List Tree) (vs : List (Vec (Link ℕ) Global)) → length (resolved table (plain_certificates vs)) ≡ length vs
counted table [] = refl
counted table (v ∷ vs) = ap suc (counted table vs)
