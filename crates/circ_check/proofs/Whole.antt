-- A proof that fits is taken part by part.
use Rattle.std.proofs.Common.{◌≡◌, ◌≢◌, true, List, [], ◌∷◌, ◌++◌, refl, sym, subst, ◌∙◌, append_assoc, append-nil}
use Rattle.circ_term.specs.Tree.{Tree}
use Rattle.circ_theory.specs.Theory.{Theory}
use Rattle.circ_theory.specs.WellFormed.{IsWellFormed}
use Rattle.circ_special.specs.declared.place.Place.{Place}
use Rattle.circ_proof.specs.Proof.{Proof, ProofFor}
use Rattle.circ_proof.specs.Parts.{Part, Head, Certificate, Goals, Step, parts_of, certificate_parts, block_parts}
use Rattle.circ_check.specs.declared.checker.Checker.{Checker}
use Rattle.circ_check.specs.Ready.{IsPartReady}
use Rattle.circ_check.specs.Watching.{checking_of, IsSound, IsBehindHead, Stands, Took, HasLeft}
use Rattle.circ_check.proofs.Fitting.{proof_ready}
use Rattle.circ_check.proofs.Watching.{took_stands}

pub left_sound : (th : Theory) (p : Proof) (ys : List Part) (k : Checker) → HasLeft th p ys k → IsSound k.theory.now k
left_sound th p ys k h = let P : Theory → Type 0 = λ y. IsSound y k in subst P (sym h.stands.sound.theory) h.stands.sound

behind : (p : Proof) (k : Checker) (xs : List Part) (x : Part) (ys : List Part) → (xs ≢ [] → k.is_begun ≡ true) → parts_of p ≡ xs ++ x ∷ ys → IsBehindHead x k
behind p k xs (Head ts ps) ys b e = tt
behind p k [] (Certificate ls) ys b e = absurd (cc)
behind p k [] (Goals gs ns) ys b e = absurd (cc)
behind p k [] (Step s) ys b e = absurd (cc)
behind p k (z ∷ zs) (Certificate ls) ys b e = b (λ f. absurd (cc))
behind p k (z ∷ zs) (Goals gs ns) ys b e = b (λ f. absurd (cc))
behind p k (z ∷ zs) (Step s) ys b e = b (λ f. absurd (cc))

-- the first of those that are left
module _ (th : Theory) (p : Proof) (x : Part) (ys : List Part) (k : Checker) (h : HasLeft th p (x ∷ ys) k) where
  pub left_ready : IsPartReady k.theory.now (checking_of k) x
  left_ready =
      let P : Theory → Type 0 = λ y. IsPartReady y (checking_of k) x in
      subst P (sym h.stands.sound.theory) (proof_ready th h.theory p h.fits h.taken x ys (checking_of k) h.all h.stands.checking)

  pub left_behind : IsBehindHead x k
  left_behind = behind p k h.taken x ys h.stands.begun h.all

  pub left_taken : (new : Checker) → Took k.theory.now x k new → HasLeft th p ys new
  left_taken new took = record {
    theory = h.theory;
    fits = h.fits;
    taken = h.taken ++ x ∷ [];
    all = h.all ∙ sym (append_assoc h.taken (x ∷ []) ys);
    stands = took_stands th h.taken x k new h.stands took;
  }

-- where nothing was taken, all parts are left
pub all_left : (th : Theory) (p : Proof) (k : Checker) → IsWellFormed th → ProofFor th p → Stands th [] k → HasLeft th p (parts_of p) k
all_left th p k ok f s = record { theory = ok; fits = f; taken = []; all = refl; stands = s }

-- and where none is left, all were taken
pub none_left : (th : Theory) (p : Proof) (k : Checker) → HasLeft th p [] k → Stands th (parts_of p) k
none_left th p k h =
    let P : List Part → Type 0 = λ xs. Stands th xs k in
    subst P (sym (append-nil h.taken) ∙ sym h.all) h.stands

-- behind the head, the certificates and the blocks are left
pub head_left : (th : Theory) (p : Proof) (k new : Checker) → IsWellFormed th → ProofFor th p → Stands th [] k → Took k.theory.now (Head p.table p.places) k new
    → HasLeft th p (certificate_parts p.certificates ++ block_parts p.blocks) new
head_left th p k new ok f s took = left_taken th p (Head p.table p.places) (certificate_parts p.certificates ++ block_parts p.blocks) k (all_left th p k ok f s) new took

-- so they are where the head that was taken has its table and its special set
pub head_by_table : (th : Theory) (p : Proof) (table : List Tree) (places : List Place) (k new : Checker) → IsWellFormed th → ProofFor th p → Stands th [] k
    → table ≡ p.table → places ≡ p.places → Took k.theory.now (Head table places) k new
    → HasLeft th p (certificate_parts p.certificates ++ block_parts p.blocks) new
head_by_table th p table places k new ok f s e d took =
    let P : List Tree → Type 0 = λ ts. Took k.theory.now (Head ts places) k new in
    let Q : List Place → Type 0 = λ gs. Took k.theory.now (Head p.table gs) k new in
    head_left th p k new ok f s (subst Q d (subst P e took))
