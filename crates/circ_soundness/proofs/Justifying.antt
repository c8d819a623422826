-- What is justified agrees at a level, under the assumptions of its setting.
use Rattle.std.proofs.Common.{◌≡◌, ℕ, List, [], ◌∷◌, ◌++◌, map, inl, inr, sym, ◌∙◌}
use Rattle.std.specs.List.{Contains}
use Rattle.std.proofs.lemmas.List.Elements.{Contains-append_cases}
use Rattle.circ_term.specs.Tree.{Tree, sort_of}
use Rattle.circ_term.specs.Substitution.{Substitution, instance}
use Rattle.circ_theory.specs.Signature.{Signature, IsWellSorted, IsSubstitution}
use Rattle.circ_theory.specs.Theory.{Theory, Pair, pair_with, CaseList, IsWellSortedPair, instance_pair}
use Rattle.circ_theory.specs.Derivable.{by_cases, is_case}
use Rattle.circ_theory.proofs.Casing.{contains_first}
use Rattle.circ_theory.proofs.Instances.{sort_of-instance_by, instance_well_sorted}
use Rattle.circ_theory.proofs.Weakening.{in_rest, weaken}
use Rattle.circ_proof.specs.Plain.{ChainOf, WhyOf, WhysOf, Same_why, Split_why, no_why, more_whys}
use Rattle.circ_proof.specs.Link.{Setting, assuming, Leads}
use Rattle.circ_proof.specs.Justified.{ChainLeads, Justified, EachJustified, AllOfChain, AllOfWhy, AllOfWhys}
use Rattle.circ_soundness.specs.Levels.{Agree, Keeps}
use Rattle.circ_proof.proofs.Cases.{case_sorted}
use Rattle.circ_proof.proofs.Members.{nothing, pick, last_first}
use Rattle.circ_soundness.proofs.Agreeing.{agree_same, agree_chain, agree_symmetry}
use Rattle.circ_soundness.proofs.Keeping.{IsGood, links_keep}

-- ---- chains

-- each side of the first pair keeps the level to that of the second, which is well-sorted
pub record Joins (c : Setting) (n : ℕ) (p q : Pair) : Type 0 where
  pub left : Keeps c.theory c.assumptions n p.left q.left
  pub right : Keeps c.theory c.assumptions n p.right q.right
  pub sorted : IsWellSortedPair c.theory.signature q

pub chain_joins : (c : Setting) (n : ℕ) → IsGood c n → (chain : ChainOf Tree) → AllOfChain (IsWellSorted c.theory.signature) chain
    → (p q : Pair) → IsWellSortedPair c.theory.signature p → ChainLeads (Leads c) chain p q → Joins c n p q
chain_joins c n g chain f p q w r =
    let x = links_keep c n g chain.left f.0 p.left q.left w.left r.left in
    let y = links_keep c n g chain.right f.1 p.right q.right w.right r.right in
    record {
      left = x;
      right = y;
      sorted = record { left = x.well_sorted; right = y.well_sorted; same_sort = y.same_sort ∙ w.same_sort ∙ sym x.same_sort };
    }

-- where the pair to which a chain leads agrees, so does the pair from which it leads
pub joins_agree : (c : Setting) (n : ℕ) (p q : Pair) → IsWellSortedPair c.theory.signature p → Joins c n p q
    → (σ : Substitution) → IsSubstitution c.theory.signature σ
    → Agree c.theory (map (instance_pair σ) c.assumptions) n (instance σ q.left) (instance σ q.right)
    → Agree c.theory (map (instance_pair σ) c.assumptions) n (instance σ p.left) (instance σ p.right)
joins_agree c n p q w j σ i a =
    let th : Theory = c.theory in
    let sig : Signature = th.signature in
    let B = map (instance_pair σ) c.assumptions in
    let sl : sort_of (instance σ q.left) ≡ sort_of (instance σ p.left) =
    sort_of-instance_by sig σ q.left i j.left.well_sorted ∙ j.left.same_sort ∙ sym (sort_of-instance_by sig σ p.left i w.left) in
    let sr : sort_of (instance σ q.right) ≡ sort_of (instance σ p.right) =
    sort_of-instance_by sig σ q.right i j.right.well_sorted ∙ j.right.same_sort ∙ sym (sort_of-instance_by sig σ p.right i w.right) in
    let sq : sort_of (instance σ q.right) ≡ sort_of (instance σ q.left) =
    sort_of-instance_by sig σ q.right i j.sorted.right ∙ j.sorted.same_sort ∙ sym (sort_of-instance_by sig σ q.left i j.sorted.left) in
    agree_chain th B n (instance σ p.left) (instance σ q.left) (instance σ p.right) sl (j.left.agree σ i)
    (agree_chain th B n (instance σ q.left) (instance σ q.right) (instance σ p.right) sq a
    (agree_symmetry th B n (instance σ p.right) (instance σ q.right) sr (j.right.agree σ i)))

-- ---- cases

-- a setting stays good with one well-sorted assumption more
good_assuming : (c : Setting) (n : ℕ) → IsGood c n → (p : Pair) → IsWellSortedPair c.theory.signature p → IsGood (assuming c p) n
good_assuming c n g p w = record {
  well_formed = g.well_formed;
  assumptions = λ q d. elim (Contains-append_cases c.assumptions (p ∷ []) q d) [
    | inl x ↦ g.assumptions q x
    | inr x ↦ pick (IsWellSortedPair c.theory.signature) p q [] w (λ y. nothing q y) x
  ];
  hypotheses = g.hypotheses;
  places = g.places;
}

mutual
  pub justified_agrees : (c : Setting) (n : ℕ) → IsGood c n → (p : Pair) → IsWellSortedPair c.theory.signature p → (w : WhyOf Tree)
      → AllOfWhy (IsWellSorted c.theory.signature) w → Justified c p w → (σ : Substitution) → IsSubstitution c.theory.signature σ
      → Agree c.theory (map (instance_pair σ) c.assumptions) n (instance σ p.left) (instance σ p.right)
  justified_agrees c n g p wp (Same_why chain) f j σ i =
      let m : Tree = j.0 in
      let x = chain_joins c n g chain f p (pair_with m m) wp j.1 in
      let same = agree_same c.theory g.well_formed (map (instance_pair σ) c.assumptions) n (instance σ m)
      (instance_well_sorted c.theory.signature σ m i x.sorted.left) in
      joins_agree c n p (pair_with m m) wp x σ i same
  justified_agrees c n g p wp (Split_why chain u whys) f j σ i =
      let th : Theory = c.theory in
      let sig : Signature = th.signature in
      let q : Pair = j.0 in
      let l : CaseList = j.2 in
      let x = chain_joins c n g chain f.0 p q wp j.1 in
      joins_agree c n p q wp x σ i (λ cs le fit.
      by_cases (instance σ u) l j.3 (instance_well_sorted sig σ u i f.1) (sort_of-instance_by sig σ u i f.1 ∙ j.4)
      (λ k ck. weaken th (each_agrees c n g q x.sorted u l j.3 f.1 j.4 l.constants (λ r d. d) whys f.2 j.5 k ck σ i cs le fit)
      (is_case (instance σ u) l k ∷ map (instance_pair σ) c.assumptions) (λ y d. last_first (instance_pair σ) c.assumptions (is_case u l k) y d)))

  each_agrees : (c : Setting) (n : ℕ) → IsGood c n → (q : Pair) → IsWellSortedPair c.theory.signature q → (u : Tree) (l : CaseList)
      → Contains c.theory.cases l → IsWellSorted c.theory.signature u → sort_of u ≡ l.sort
      → (ks : List ℕ) → ((k : ℕ) → Contains ks k → Contains l.constants k) → (ws : WhysOf Tree) → AllOfWhys (IsWellSorted c.theory.signature) ws
      → EachJustified c q u l ks ws → (k : ℕ) → Contains ks k → (σ : Substitution) → IsSubstitution c.theory.signature σ
      → Agree c.theory (map (instance_pair σ) (c.assumptions ++ is_case u l k ∷ [])) n (instance σ q.left) (instance σ q.right)
  each_agrees c n g q wq u l cl wu su [] within no_why f j k ck σ i = nothing k ck
  each_agrees c n g q wq u l cl wu su [] within (more_whys w ws) f j k ck σ i = absurd j
  each_agrees c n g q wq u l cl wu su (r ∷ ks) within no_why f j k ck σ i = absurd j
  each_agrees c n g q wq u l cl wu su (r ∷ ks) within (more_whys w ws) f j k ck σ i =
      let case = is_case u l r in
      let good = good_assuming c n g case (case_sorted c.theory g.well_formed u l r cl (within r (contains_first r ks)) wu su) in
      let P : ℕ → Type 0 = λ x. Agree c.theory (map (instance_pair σ) (c.assumptions ++ is_case u l x ∷ [])) n (instance σ q.left) (instance σ q.right) in
      pick P r k ks (justified_agrees (assuming c case) n good q wq w f.0 j.0 σ i)
      (λ d. each_agrees c n g q wq u l cl wu su ks (λ y e. within y (in_rest r y ks e)) ws f.1 j.1 k d σ i) ck
