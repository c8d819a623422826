-- The numbers and the paths of what leads are small, where the terms that it leads from are fine.
use Rattle.std.proofs.Common.{◌≡◌, ◌⊎◌, ℕ, zero, suc, ◌+◌, ◌≤◌, ◌<◌, ◌^◌, length, List, [], ◌∷◌, ◌++◌, refl, sym, subst, ◌∙◌, arith, inl, inr, length-append}
use Rattle.std.specs.List.{AllByRecursion, Contains}
use Rattle.std.proofs.lemmas.List.Elements.{Contains-append_cases}
use Rattle.circ_term.specs.Tree.{Tree, none, sort_of}
use Rattle.circ_term.specs.Limits.{IsWithinLimits}
use Rattle.circ_theory.specs.Signature.{IsWellSorted, HaveSorts}
use Rattle.circ_theory.specs.Theory.{Theory, Pair, HasNoConditions, pair_with, CaseList, IsWellSortedPair}
use Rattle.circ_theory.specs.WellFormed.{IsWellFormed}
use Rattle.circ_theory.specs.Derivable.{is_case}
use Rattle.circ_theory.specs.Goal.{Goal}
use Rattle.circ_theory.proofs.Casing.{contains_first, contains_next}
use Rattle.circ_theory.proofs.Lists.{all_at}
use Rattle.circ_theory.proofs.Rewriting.{contains_at}
use Rattle.circ_theory.proofs.Weakening.{first_or_rest}
use Rattle.circ_special.specs.declared.place.Place.{Place}
use Rattle.circ_proof.specs.Plain.{LinkOf, Equation_link, Hypothesis_link, Assumption_link, Content_link, no_chain, ChainOf, WhyOf, WhysOf, Same_why, Split_why, no_why, more_whys}
use Rattle.circ_proof.specs.Goals.{AreSortedGoals}
use Rattle.circ_proof.specs.Runs.{Runs}
use Rattle.circ_proof.specs.Link.{Setting, setting, Leads, AllOfLinks}
use Rattle.circ_proof.specs.Justified.{ChainLeads, Justified, EachJustified, AllOfChain, AllOfWhy, AllOfWhys}
use Rattle.circ_proof.proofs.Leading.{IsSortedSetting, link_sorted}
use Rattle.circ_proof.specs.Counting.{why_count}
use Rattle.circ_proof.specs.Proof.{IsNumber, IsPath}
use Rattle.circ_proof.proofs.FewPlaces.{slice_bound}
use Rattle.circ_plain_search.specs.BlockRules.{HaveNoConditions}
use Rattle.circ_plain_search.proofs.Terms.{path_fits}
use Rattle.circ_plain_search.proofs.Unconditional.{chains_none}
use Rattle.circ_plain_search.proofs.Splits.{FitsIn, AllFitIn}

-- the numbers and the path that a link without conditions has besides its terms
abbrev pub IsRanged : LinkOf Tree → Type 0
IsRanged (Equation_link number way path terms conds) = IsNumber number × IsPath path × (conds ≡ no_chain)
IsRanged (Hypothesis_link number way path terms conds) = IsNumber number × IsPath path × (conds ≡ no_chain)
IsRanged (Assumption_link number way path) = IsNumber number × IsPath path
IsRanged (Content_link op path term) = IsNumber op × IsPath path

abbrev pub AreRanged : List (LinkOf Tree) → Type 0
AreRanged ls = AllByRecursion IsRanged ls

abbrev pub IsRangedChain : ChainOf Tree → Type 0
IsRangedChain c = AreRanged c.left × AreRanged c.right

abbrev mutual
  pub IsRangedWhy : WhyOf Tree → Type 0
  IsRangedWhy (Same_why c) = IsRangedChain c
  IsRangedWhy (Split_why c u ws) = IsRangedChain c × IsNumber (why_count ws) × AreRangedWhys ws

  pub AreRangedWhys : WhysOf Tree → Type 0
  AreRangedWhys no_why = Unit {0}
  AreRangedWhys (more_whys w ws) = IsRangedWhy w × AreRangedWhys ws

-- ---- links

-- a setting without conditions, with few hypotheses and assumptions
pub record IsSmallSetting (c : Setting) : Type 0 where
  pub sorted : IsSortedSetting c
  pub few_hypotheses : length c.hypotheses < 2 ^ 32
  pub few_assumptions : length c.assumptions < 2 ^ 32
  pub none : HasNoConditions c.theory
  pub bare : HaveNoConditions c.hypotheses

-- a term that is well-sorted and within the limits
pub record IsGiven (th : Theory) (t : Tree) : Type 0 where
  pub sorted : IsWellSorted th.signature t
  pub within : IsWithinLimits t

record LinkRanged (c : Setting) (l : LinkOf Tree) (u : Tree) : Type 0 where
  ranged : IsRanged l
  within : IsWithinLimits u

link_ranged : (c : Setting) → IsSmallSetting c → (l : LinkOf Tree) (t u : Tree) → IsGiven c.theory t → Leads c l t u → LinkRanged c l u
link_ranged c s (Equation_link number way path terms conds) t u g r =
    let wf = s.sorted.well_formed in
    let few = wf.few_equations in
    let b = slice_bound c.theory.equations number r.0.equation r.0.listed in
    record {
      ranged = (
        omega (arith, few, b),
        path_fits c.theory wf path t _ g.sorted g.within r.0.rewrites.replaces.there,
        chains_none c _ r.0.equation.conds conds (s.none r.0.equation (contains_at c.theory.equations number r.0.equation r.0.listed)) r.1,
      );
      within = r.0.rewrites.replaces.within;
    }
link_ranged c s (Hypothesis_link number way path terms conds) t u g r =
    let few = s.few_hypotheses in
    let b = slice_bound c.hypotheses number r.0.hypothesis r.0.listed in
    record {
      ranged = (
        omega (arith, few, b),
        path_fits c.theory s.sorted.well_formed path t _ g.sorted g.within r.0.rewrites.replaces.there,
        chains_none c _ r.0.hypothesis.conds conds (all_at (λ h. h.conds ≡ []) c.hypotheses number r.0.hypothesis s.bare r.0.listed) r.1,
      );
      within = r.0.rewrites.replaces.within;
    }
link_ranged c s (Assumption_link number way path) t u g r =
    let few = s.few_assumptions in
    let b = slice_bound c.assumptions number r.assumed r.listed in
    record { ranged = (omega (arith, few, b), path_fits c.theory s.sorted.well_formed path t _ g.sorted g.within r.replaces.there); within = r.replaces.within }
link_ranged c s (Content_link op path term) t u g r =
    let wf = s.sorted.well_formed in
    let few = wf.few_ops in
    let b = slice_bound c.theory.signature.ops op r.content.operator r.content.there in
    record { ranged = (omega (arith, few, b), path_fits c.theory wf path t _ g.sorted g.within r.replaces.there); within = r.replaces.within }

pub record LinksRanged (c : Setting) (ls : List (LinkOf Tree)) (t u : Tree) : Type 0 where
  pub ranged : AreRanged ls
  pub given : IsGiven c.theory u
  pub same_sort : sort_of u ≡ sort_of t

pub links_ranged : (c : Setting) → IsSmallSetting c → (ls : List (LinkOf Tree)) (t u : Tree) → IsGiven c.theory t
    → AllOfLinks (IsWellSorted c.theory.signature) ls → Runs (Leads c) ls t u → LinksRanged c ls t u
links_ranged c s [] t u g a r = let P : Tree → Type 0 = LinksRanged c [] t in subst P r (record { ranged = tt; given = g; same_sort = refl })
links_ranged c s (l ∷ ls) t u g a r =
    let here = link_ranged c s l t r.0 g r.1 in
    let keeps = link_sorted c s.sorted l a.0 t r.0 g.sorted r.1 in
    let rest = links_ranged c s ls r.0 u (record { sorted = keeps.well_sorted; within = here.within }) a.1 r.2 in
    record { ranged = (here.ranged, rest.ranged); given = rest.given; same_sort = rest.same_sort ∙ keeps.same_sort }

-- a pair whose sides are well-sorted, of one sort, and within the limits
pub record IsGivenPair (th : Theory) (p : Pair) : Type 0 where
  pub left : IsGiven th p.left
  pub right : IsGiven th p.right
  pub same_sort : sort_of p.right ≡ sort_of p.left

pub record ChainRanged (c : Setting) (chain : ChainOf Tree) (q : Pair) : Type 0 where
  pub ranged : IsRangedChain chain
  pub given : IsGivenPair c.theory q

pub chain_ranged : (c : Setting) → IsSmallSetting c → (chain : ChainOf Tree) (p q : Pair) → IsGivenPair c.theory p
    → AllOfChain (IsWellSorted c.theory.signature) chain → ChainLeads (Leads c) chain p q → ChainRanged c chain q
chain_ranged c s chain p q g a r =
    let x = links_ranged c s chain.left p.left q.left g.left a.0 r.left in
    let y = links_ranged c s chain.right p.right q.right g.right a.1 r.right in
    record {
      ranged = (x.ranged, y.ranged);
      given = record { left = x.given; right = y.given; same_sort = y.same_sort ∙ g.same_sort ∙ sym x.same_sort };
    }

-- ---- whys

case_sorted : (th : Theory) → IsWellFormed th → (u : Tree) → IsWellSorted th.signature u → (l : CaseList) → Contains th.cases l → sort_of u ≡ l.sort
    → (k : ℕ) → Contains l.constants k → IsWellSortedPair th.signature (is_case u l k)
case_sorted th wf u s l c e k h =
    let o = (wf.cases l c).constants k h in
    let P : List ℕ → Type 0 = λ ss. HaveSorts th.signature none ss in
    record { left = s; right = (o.0, o.1.0, o.1.2, subst P (sym o.1.1) tt); same_sort = sym e }

module _ (th : Theory) (wf : IsWellFormed th) (th_none : HasNoConditions th) (G : List Place) (H : List Goal) (sorted : AreSortedGoals th H)
    (bare : HaveNoConditions H) (few : length H < 2 ^ 32) where
  abbrev AreSortedPairs : List Pair → Type 0
  AreSortedPairs A = (p : Pair) → Contains A p → IsWellSortedPair th.signature p

  pairs_more : (A : List Pair) (p : Pair) → AreSortedPairs A → IsWellSortedPair th.signature p → AreSortedPairs (A ++ p ∷ [])
  pairs_more A p a w q c = go (Contains-append_cases A (p ∷ []) q c)
    where
      last : (p ≡ q) ⊎ Contains [] q → IsWellSortedPair th.signature q
      last (inl e) = subst (IsWellSortedPair th.signature) e w
      last (inr d) = absurd (omega (arith, d.1))

      go : Contains A q ⊎ Contains (p ∷ []) q → IsWellSortedPair th.signature q
      go (inl d) = a q d
      go (inr d) = last (first_or_rest p q [] d)

  small : (A : List Pair) → AreSortedPairs A → length A < 2 ^ 32 → IsSmallSetting (setting th G H A)
  small A a l =
      record { sorted = record { well_formed = wf; hypotheses = sorted; assumptions = a }; few_hypotheses = few; few_assumptions = l; none = th_none; bare = bare }

  each_counted : (A : List Pair) (q : Pair) (u : Tree) (l : CaseList) (ks : List ℕ) (ws : WhysOf Tree) → EachJustified (setting th G H A) q u l ks ws
      → why_count ws ≡ length ks
  each_counted A q u l [] no_why r = refl
  each_counted A q u l [] (more_whys w ws) r = absurd r
  each_counted A q u l (k ∷ ks) no_why r = absurd r
  each_counted A q u l (k ∷ ks) (more_whys w ws) r = let e = each_counted A q u l ks ws r.1 in omega (arith, e)

  mutual
    pub why_ranged : (n : ℕ) (A : List Pair) → AreSortedPairs A → length A + n ≤ 8 → (w : WhyOf Tree) (p : Pair) → IsGivenPair th p
        → AllOfWhy (IsWellSorted th.signature) w → FitsIn n w → Justified (setting th G H A) p w → IsRangedWhy w
    why_ranged n A a l (Same_why c) p g t f r =
        (chain_ranged (setting th G H A) (small A a (omega (arith, l))) c p (pair_with r.0 r.0) g t r.1).ranged
    why_ranged zero A a l (Split_why c u ws) p g t f r = absurd f
    why_ranged (suc n) A a l (Split_why c u ws) p g t f r =
        let q : Pair = r.0 in
        let cs : CaseList = r.2 in
        let x = chain_ranged (setting th G H A) (small A a (omega (arith, l))) c p q g t.0 r.1 in
        let count = each_counted A q u cs cs.constants ws r.5 in
        let short = (wf.cases cs r.3).few in (
          x.ranged,
          omega (arith, count, short),
          whys_ranged n A a l ws q u t.1 cs r.3 r.4 cs.constants (λ k h. h) x.given t.2 f r.5,
        )

    whys_ranged : (n : ℕ) (A : List Pair) → AreSortedPairs A → length A + suc n ≤ 8 → (ws : WhysOf Tree) (q : Pair) (u : Tree) → IsWellSorted th.signature u
        → (l : CaseList) → Contains th.cases l → sort_of u ≡ l.sort → (ks : List ℕ) → ((k : ℕ) → Contains ks k → Contains l.constants k) → IsGivenPair th q
        → AllOfWhys (IsWellSorted th.signature) ws → AllFitIn n ws → EachJustified (setting th G H A) q u l ks ws → AreRangedWhys ws
    whys_ranged n A a b no_why q u su l c e [] within g t f r = tt
    whys_ranged n A a b no_why q u su l c e (k ∷ ks) within g t f r = absurd r
    whys_ranged n A a b (more_whys w ws) q u su l c e [] within g t f r = absurd r
    whys_ranged n A a b (more_whys w ws) q u su l c e (k ∷ ks) within g t f r =
        let long = length-append A (is_case u l k ∷ []) in
        let more = pairs_more A (is_case u l k) a (case_sorted th wf u su l c e k (within k (contains_first k ks))) in (
          why_ranged n (A ++ is_case u l k ∷ []) more (omega (arith, long, b)) w q g t.0 f.0 r.0,
          whys_ranged n A a b ws q u su l c e ks (λ j h. within j (contains_next k j ks h)) g t.1 f.1 r.1,
        )
