-- The numbers and the paths of steps that run are small; there are never more hypotheses than steps were made.
use Rattle.std.proofs.Common.{◌≡◌, ◌+◌, ◌≤◌, ◌<◌, ◌^◌, length, List, [], ◌∷◌, map, sym, subst, arith, length-append}
use Rattle.std.specs.List.{AllByRecursion, Contains}
use Rattle.circ_term.specs.Tree.{Tree}
use Rattle.circ_theory.specs.Signature.{IsWellSorted}
use Rattle.circ_theory.specs.Theory.{Theory, Pair, Derivative, HasNoConditions, IsWellSortedPair, sides}
use Rattle.circ_theory.specs.WellFormed.{IsWellFormed}
use Rattle.circ_theory.specs.Fresh.{derivatives_of}
use Rattle.circ_theory.specs.Goal.{Goal}
use Rattle.circ_special.specs.declared.place.Place.{Place}
use Rattle.circ_proof.specs.Goals.{AreSortedGoals}
use Rattle.circ_proof.specs.Link.{setting, Leads}
use Rattle.circ_proof.specs.Justified.{ChainLeads, Justified}
use Rattle.circ_proof.specs.Rules.{State, IsSortedState, ProofStep, Simplify, Reduce, Derive, Cases, Done, AllOfStep, StepOn, StepsOf, IsDerivable, derived_goal, derivatives_on}
use Rattle.circ_theory.specs.Fresh.{fresh_in}
use Rattle.circ_proof.proofs.Sorted.{sorted_first}
use Rattle.circ_proof.proofs.Stepping.{step_sorted}
use Rattle.circ_term.specs.Limits.{IsWithinLimits}
use Rattle.circ_plain_search.specs.BlockRules.{HaveNoConditions}
use Rattle.circ_plain_search.proofs.Led.{all_append}
use Rattle.circ_plain_search.proofs.Splits.{FitsIn}
use Rattle.circ_plain_search.proofs.Ranges.{IsRangedChain, IsRangedWhy, IsSmallSetting, IsGivenPair, chain_ranged, why_ranged}

abbrev pub IsRangedStep : ProofStep Tree → Type 0
IsRangedStep (Simplify c) = IsRangedChain c
IsRangedStep (Reduce w) = IsRangedWhy w
IsRangedStep Derive = Unit {0}
IsRangedStep (Cases u) = ⊥
IsRangedStep Done = Unit {0}

-- at most eight splits stand inside one another, and no step is by cases
abbrev pub FitsStep : ProofStep Tree → Type 0
FitsStep (Simplify c) = Unit {0}
FitsStep (Reduce w) = FitsIn 8 w
FitsStep Derive = Unit {0}
FitsStep (Cases u) = ⊥
FitsStep Done = Unit {0}

abbrev pub IsWithinGoal : Goal → Type 0
IsWithinGoal g = IsWithinLimits g.left × IsWithinLimits g.right

abbrev pub AreWithin : List Goal → Type 0
AreWithin gs = AllByRecursion IsWithinGoal gs

derived_within : (g : Goal) (ds : List Derivative) → AllByRecursion (IsDerivable g) ds → AreWithin (map (λ d. derived_goal d g (fresh_in g)) ds)
derived_within g [] a = tt
derived_within g (d ∷ ds) a = ((a.0.left, a.0.right), derived_within g ds a.1)

derived_bare : (g : Goal) → g.conds ≡ [] → (ds : List Derivative) → HaveNoConditions (map (λ d. derived_goal d g (fresh_in g)) ds)
derived_bare g bare [] = tt
derived_bare g bare (d ∷ ds) = (bare, derived_bare g bare ds)

-- What a step does besides.
record StepRanged (s : ProofStep Tree) (H gs : List Goal) (b : State) : Type 0 where
  ranged : IsRangedStep s
  within : AreWithin b.goals
  bare_hypotheses : HaveNoConditions b.hypotheses
  bare : HaveNoConditions b.goals
  more : length b.hypotheses ≤ length H + 1
  fewer : length gs ≤ length b.goals + 1

module _ (th : Theory) (wf : IsWellFormed th) (none : HasNoConditions th) (G : List Place) where
  given_goal : (g : Goal) (gs : List Goal) → AreSortedGoals th (g ∷ gs) → IsWithinGoal g → IsGivenPair th (sides g)
  given_goal g gs s w =
      let x = (sorted_first th g gs s).sorted in
      record {
        left = record { sorted = x.left; within = w.0 };
        right = record { sorted = x.right; within = w.1 };
        same_sort = x.same_sort;
      }

  small : (H : List Goal) → AreSortedGoals th H → HaveNoConditions H → length H < 2 ^ 32 → IsSmallSetting (setting th G H [])
  small H s b f = record {
    sorted = record { well_formed = wf; hypotheses = s; assumptions = λ p c. absurd (omega (arith, c.1)) };
    few_hypotheses = f;
    few_assumptions = omega arith;
    none = none;
    bare = b;
  }

  step_ranged : (s : ProofStep Tree) (H gs : List Goal) (b : State) → AreSortedGoals th H → AreSortedGoals th gs → HaveNoConditions H → HaveNoConditions gs
      → length H < 2 ^ 32 → AreWithin gs → AllOfStep (IsWellSorted th.signature) s → FitsStep s → StepOn th G s H gs b → StepRanged s H gs b
  step_ranged (Simplify c) H [] b sh sg bh bg few w t f r = absurd r
  step_ranged (Simplify c) H (g ∷ gs) b sh sg bh bg few w t f r =
      let E : List Pair → Type 0 = λ e. ChainLeads (Leads (setting th G H e)) c (sides g) r.0 in
      let x = chain_ranged (setting th G H []) (small H sh bh few) c (sides g) r.0 (given_goal g gs sg w.0) t (subst E bg.0 r.1) in
      let P : State → Type 0 = λ y. StepRanged (Simplify c) H (g ∷ gs) y in
      subst P (sym r.2) (record {
        ranged = x.ranged;
        within = ((x.given.left.within, x.given.right.within), w.1);
        bare_hypotheses = bh;
        bare = bg;
        more = omega arith;
        fewer = omega arith;
      })
  step_ranged (Reduce y) H [] b sh sg bh bg few w t f r = absurd r
  step_ranged (Reduce y) H (g ∷ gs) b sh sg bh bg few w t f r =
      let P : State → Type 0 = λ z. StepRanged (Reduce y) H (g ∷ gs) z in
      let nothing : (p : Pair) → Contains [] p → IsWellSortedPair th.signature p = λ p c. absurd (omega (arith, c.1)) in
      let E : List Pair → Type 0 = λ e. Justified (setting th G H e) (sides g) y in
      subst P (sym r.1) (record {
        ranged = why_ranged th wf none G H sh bh few 8 [] nothing (omega arith) y (sides g) (given_goal g gs sg w.0) t f (subst E bg.0 r.0);
        within = w.1;
        bare_hypotheses = bh;
        bare = bg.1;
        more = omega arith;
        fewer = omega arith;
      })
  step_ranged Derive H [] b sh sg bh bg few w t f r = absurd r
  step_ranged Derive H (g ∷ gs) b sh sg bh bg few w t f r =
      let P : State → Type 0 = λ z. StepRanged Derive H (g ∷ gs) z in
      let long = length-append H (g ∷ []) in
      let grows = length-append gs (derivatives_on th g) in
      subst P (sym r.2) (record {
        ranged = tt;
        within = all_append IsWithinGoal gs (derivatives_on th g) w.1 (derived_within g (derivatives_of th _) r.1);
        bare_hypotheses = all_append (λ h. h.conds ≡ []) H (g ∷ []) bh (bg.0, tt);
        bare = all_append (λ h. h.conds ≡ []) gs (derivatives_on th g) bg.1 (derived_bare g bg.0 (derivatives_of th _));
        more = omega (arith, long);
        fewer = omega (arith, grows);
      })
  step_ranged (Cases u) H gs b sh sg bh bg few w t f r = absurd f
  step_ranged Done H [] b sh sg bh bg few w t f r =
      let P : State → Type 0 = λ z. StepRanged Done H [] z in
      subst P (sym r) (record { ranged = tt; within = tt; bare_hypotheses = bh; bare = tt; more = omega arith; fewer = omega arith })
  step_ranged Done H (g ∷ gs) b sh sg bh bg few w t f r = absurd r

  -- steps that run, and how many goals they can take
  pub record StepsRanged (ss : List (ProofStep Tree)) (a b : State) : Type 0 where
    pub ranged : AllByRecursion IsRangedStep ss
    pub fewer : length a.goals ≤ length b.goals + length ss

  pub steps_ranged : (ss : List (ProofStep Tree)) (a b : State) → IsSortedState th a → HaveNoConditions a.hypotheses → HaveNoConditions a.goals
      → length a.hypotheses + length ss < 2 ^ 32 → AreWithin a.goals → AllByRecursion (AllOfStep (IsWellSorted th.signature)) ss → AllByRecursion FitsStep ss → StepsOf th G ss a b → StepsRanged ss a b
  steps_ranged [] a b s bh bg few w t f r =
      let P : State → Type 0 = λ y. StepsRanged [] a y in
      subst P r (record { ranged = tt; fewer = omega arith })
  steps_ranged (x ∷ ss) a b s bh bg few w t f r =
      let here = step_ranged x a.hypotheses a.goals r.0 s.0 s.1 bh bg (omega (arith, few)) w t.0 f.0 r.1 in
      let more = here.more in
      let fewer = here.fewer in
      let rest = steps_ranged ss r.0 b (step_sorted th wf G x t.0 a r.0 s r.1) here.bare_hypotheses here.bare (omega (arith, few, more)) here.within t.1 f.1 r.2 in
      let fewer_rest = rest.fewer in
      record { ranged = (here.ranged, rest.ranged); fewer = omega (arith, fewer, fewer_rest) }
