-- What was gone over, and what is not gone over again.
use Rattle.std.proofs.Common.{◌≡◌, ◌<◌, ◌≤◌, ◌+◌, ℕ, zero, suc, Bool, true, false, ◌==◌, ◌&&◌, if◌then◌else◌, List, [], ◌∷◌, ◌++◌, length, slice_index_or, Some, IsTrue, ◌↔◌, inl, inr, refl, ap, sym, subst, ◌∙◌, arith}
use Rattle.std.specs.Prelude.{nat_eq}
use Rattle.std.specs.List.{slice_get, list_any, Contains}
use Rattle.std.specs.Cmp.Lexicographic.{pointwise}
use Rattle.std.proofs.lemmas.Bool.{cases_Bool, cases_lt, and_parts, eqb-true}
use Rattle.std.proofs.lemmas.Option.{same_Some, slice_get_within}
use Rattle.std.proofs.lemmas.Slice.Eq.{bytes_eq-Decides}
use mathlib.Core.Bool.{beq}
use Rattle.circ_term.specs.Tree.{Tree}
use Rattle.circ_nodes.specs.Named.{tree_at}
use Rattle.circ_certificates.specs.declared.guard.Asked.{Asked}
use Rattle.circ_certificates.specs.declared.guard.Visit.{Visit}
use Rattle.circ_special.specs.Special.{place}
use Rattle.circ_certificates.specs.Covering.{numbered_terms, below, IsCovered, AreCovered}
use Rattle.circ_certificates.specs.Visits.{IsCoveredVisit, AreCoveredVisits}
use Rattle.circ_certificates.proofs.Covering.{covered_where}
use Rattle.circ_certificates.proofs.Members.{one_more}

-- ---- the same visit

abbrev pub same_visit : Visit → Visit → Bool
same_visit v w = (v.term == w.term) && (beq v.is_special w.is_special && pointwise nat_eq v.bodies.items w.bodies.items)

same_flag : (b c : Bool) → beq b c ≡ true → b ≡ c
same_flag true true e = refl
same_flag true false e = absurd (cc)
same_flag false true e = absurd (cc)
same_flag false false e = refl

-- what holds of one holds of the other
holds_again : (a : Asked) (v w : Visit) → same_visit v w ≡ true → IsCoveredVisit a w → IsCoveredVisit a v
holds_again a v w e h =
    let x = and_parts (v.term == w.term) (beq v.is_special w.is_special && pointwise nat_eq v.bodies.items w.bodies.items) e in
    let y = and_parts (beq v.is_special w.is_special) (pointwise nat_eq v.bodies.items w.bodies.items) x.1 in
    let term : w.term ≡ v.term = sym (eqb-true v.term w.term x.0) in
    let special : w.is_special ≡ v.is_special = sym (same_flag v.is_special w.is_special y.0) in
    let bodies : w.bodies.items ≡ v.bodies.items = sym ((bytes_eq-Decides v.bodies.items w.bodies.items).0 y.1) in
    let P : ℕ → Type 0 = λ n. IsCovered a (w.is_special ≡ true) (numbered_terms a w.bodies.items) (tree_at a.nodes.now n) in
    let Q : Bool → Type 0 = λ b. IsCovered a (b ≡ true) (numbered_terms a w.bodies.items) (tree_at a.nodes.now v.term) in
    let R : List ℕ → Type 0 = λ ns. IsCovered a (v.is_special ≡ true) (numbered_terms a ns) (tree_at a.nodes.now v.term) in
    subst R bodies (subst Q special (subst P term h))

pub seen_holds : (a : Asked) (v : Visit) (vs : List Visit) → list_any (same_visit v) vs ≡ true → AreCoveredVisits a vs → IsCoveredVisit a v
seen_holds a v [] e h = absurd (cc)
seen_holds a v (w ∷ vs) e h = elim (cases_Bool (same_visit v w)) [
  | inl x ↦ holds_again a v w x h.0
  | inr x ↦ seen_holds a v vs (rw x at e) h.1
]

pub seen_put : (a : Asked) (v : Visit) (vs ws : List Visit) → ws ≡ (if list_any (same_visit v) vs then vs else vs ++ v ∷ []) → IsCoveredVisit a v → AreCoveredVisits a vs → AreCoveredVisits a ws
seen_put a v vs ws e h seen = go (list_any (same_visit v) vs) e
  where
    go : (b : Bool) → ws ≡ (if b then vs else vs ++ v ∷ []) → AreCoveredVisits a ws
    go true e = rw e seen
    go false e = rw e (one_more (IsCoveredVisit a) vs v seen h)

-- ---- the arguments of an operator, one after another

module _ (a : Asked) (Here : Type 0) (f : ℕ) (bodies args : List ℕ) where
  -- those before a place
  abbrev pub FirstHold : ℕ → Type 0
  FirstHold i = (j : ℕ) (t : Tree) → j < i → slice_get (numbered_terms a args) j ≡ Some t → IsCovered a (Here × Contains a.rules.gamma.now (place f j)) (below j (numbered_terms a bodies)) t

  -- the argument at a place
  arg_read : (ns : List ℕ) (i : ℕ) → i < length ns → slice_get (numbered_terms a ns) i ≡ Some (tree_at a.nodes.now (slice_index_or ns i 0))
  arg_read [] i l = absurd (omega (arith, l))
  arg_read (n ∷ ns) zero l = refl
  arg_read (n ∷ ns) (suc i) l = arg_read ns i (omega (arith, l))

  module _ (i : ℕ) (l : i < length args) (v : Visit) (term : v.term ≡ slice_index_or args i 0) (bs : numbered_terms a v.bodies.items ≡ below i (numbered_terms a bodies))
      (on : IsTrue v.is_special ↔ (Here × Contains a.rules.gamma.now (place f i))) where
    abbrev Inner : Type 0
    Inner = Here × Contains a.rules.gamma.now (place f i)

    holds_at : IsCoveredVisit a v → IsCovered a Inner (below i (numbered_terms a bodies)) (tree_at a.nodes.now (slice_index_or args i 0))
    holds_at h =
        let P : ℕ → Type 0 = λ n. IsCovered a Inner (below i (numbered_terms a bodies)) (tree_at a.nodes.now n) in
        let Q : List Tree → Type 0 = λ xs. IsCovered a Inner xs (tree_at a.nodes.now v.term) in
        subst P term (subst Q bs (covered_where a (λ e. on.0 e) (numbered_terms a v.bodies.items) (tree_at a.nodes.now v.term) h))

    at_holds : IsCovered a Inner (below i (numbered_terms a bodies)) (tree_at a.nodes.now (slice_index_or args i 0)) → IsCoveredVisit a v
    at_holds h =
        let P : ℕ → Type 0 = λ n. IsCovered a Inner (below i (numbered_terms a bodies)) (tree_at a.nodes.now n) in
        let Q : List Tree → Type 0 = λ xs. IsCovered a Inner xs (tree_at a.nodes.now v.term) in
        covered_where a (λ e. on.1 e) (numbered_terms a v.bodies.items) (tree_at a.nodes.now v.term) (subst Q (sym bs) (subst P (sym term) h))

    pub hold_next : IsCoveredVisit a v → FirstHold i → FirstHold (i + 1)
    hold_next h so_far = λ j t k e. elim (cases_lt j i) [
      | inl less ↦ so_far j t less e
      | inr more ↦
          let same : i ≡ j = omega (arith, k, more) in
          let P : ℕ → Type 0 = λ m. slice_get (numbered_terms a args) m ≡ Some t in
          let is = same_Some _ t (sym (arg_read args i l) ∙ subst P (sym same) e) in
          let Q : ℕ → Type 0 = λ m. IsCovered a (Here × Contains a.rules.gamma.now (place f m)) (below m (numbered_terms a bodies)) t in
          let R : Tree → Type 0 = λ u. IsCovered a Inner (below i (numbered_terms a bodies)) u in
          subst Q same (subst R is (holds_at h))
    ]

    pub hold_stops : (IsCoveredVisit a v → ⊥) → IsTrue false ↔ AreCovered a Here f (numbered_terms a bodies) (numbered_terms a args)
    hold_stops h = ((λ t. absurd (cc)), (λ all. absurd (h (at_holds (all i _ (arg_read args i l))))))

  pub hold_all : (i : ℕ) → length args ≤ i → FirstHold i → IsTrue true ↔ AreCovered a Here f (numbered_terms a bodies) (numbered_terms a args)
  hold_all i l so_far = ((λ t j u e. so_far j u (within j u e) e), (λ c. refl))
    where
      long : (ns : List ℕ) → length (numbered_terms a ns) ≡ length ns
      long [] = refl
      long (n ∷ ns) = ap suc (long ns)

      within : (j : ℕ) (u : Tree) → slice_get (numbered_terms a args) j ≡ Some u → j < i
      within j u e = omega (arith, slice_get_within (numbered_terms a args) j u e, long args, l)
