-- The numbers and the paths of steps that run are small; there are never more hypotheses than steps were made.
use Rattle.std.proofs.Common.{◌+◌, ◌≤◌, ◌<◌, ◌^◌, ℕ, length, List, [], ◌∷◌, map, sym, subst, arith, length-append}
use Rattle.std.specs.List.{AllByRecursion, Contains}
use Rattle.circ_term.specs.Tree.{Tree, sort_of}
use Rattle.circ_term.specs.Limits.{IsWithinLimits}
use Rattle.circ_theory.specs.Signature.{IsWellSorted}
use Rattle.circ_theory.specs.Theory.{Theory, Pair, Derivative, CaseList, IsWellSortedPair, sides}
use Rattle.circ_theory.specs.Derivable.{is_case}
use Rattle.circ_theory.specs.Observing.{case_list}
use Rattle.circ_theory.specs.Fresh.{derivatives_of, fresh_in}
use Rattle.circ_special.specs.declared.place.Place.{Place}
use Rattle.circ_plain_search.proofs.Led.{all_append}
use Rattle.circ_theory.specs.Goal.{Goal}
use Rattle.circ_proof.specs.Goals.{with_cond, AreSortedGoals}
use Rattle.circ_theory.specs.Limits.{condition_limit}
use Rattle.circ_theory.specs.WellFormed.{IsWellFormed}
use Rattle.circ_proof.specs.Link.{setting}
use Rattle.circ_proof.specs.Rules.{State, IsSortedState, ProofStep, Simplify, Reduce, Derive, Cases, Done, AllOfStep, StepOn, StepsOf, IsDerivable, cases_on, derived_goal, derivatives_on}
use Rattle.circ_proof.proofs.Sorted.{sorted_first}
use Rattle.circ_proof.proofs.Stepping.{step_sorted}
use Rattle.circ_conditional_search.proofs.Nesting.{ChainNests}
use Rattle.circ_conditional_search.proofs.Splits.{FitsIn}
use Rattle.circ_conditional_search.proofs.Ranges.{IsRangedChain, IsRangedWhy, IsGivenPair, chain_ranged, why_ranged, small}

abbrev pub IsRangedStep : ProofStep Tree → Type 0
IsRangedStep (Simplify c) = IsRangedChain c
IsRangedStep (Reduce w) = IsRangedWhy w
IsRangedStep Derive = Unit {0}
IsRangedStep (Cases u) = Unit {0}
IsRangedStep Done = Unit {0}

-- at most eight splits, and at most eight conditions, stand inside one another
abbrev pub FitsStep : ProofStep Tree → Type 0
FitsStep (Simplify c) = ChainNests c
FitsStep (Reduce w) = FitsIn 8 w
FitsStep Derive = Unit {0}
FitsStep (Cases u) = Unit {0}
FitsStep Done = Unit {0}

-- both sides are within the limits, and there are few conditions
pub record IsWithinGoal (g : Goal) : Type 0 where
  pub left : IsWithinLimits g.left
  pub right : IsWithinLimits g.right
  pub few : length g.conds ≤ condition_limit

abbrev pub AreWithin : List Goal → Type 0
AreWithin gs = AllByRecursion IsWithinGoal gs

derived_within : (g : Goal) → length g.conds ≤ condition_limit → (ds : List Derivative) → AllByRecursion (IsDerivable g) ds
    → AreWithin (map (λ d. derived_goal d g (fresh_in g)) ds)
derived_within g f [] a = tt
derived_within g f (d ∷ ds) a = (record { left = a.0.left; right = a.0.right; few = f }, derived_within g f ds a.1)

cases_within : (g : Goal) (u : Tree) (l : CaseList) → IsWithinGoal g → length g.conds < condition_limit → (ks : List ℕ) → AreWithin (map (λ k. with_cond g (is_case u l k)) ks)
cases_within g u l w f [] = tt
cases_within g u l w f (k ∷ ks) =
    let long = length-append g.conds (is_case u l k ∷ []) in
    (record { left = w.left; right = w.right; few = omega (arith, f, long) }, cases_within g u l w f ks)

-- What a step does besides.
record StepRanged (s : ProofStep Tree) (H gs : List Goal) (b : State) : Type 0 where
  ranged : IsRangedStep s
  within : AreWithin b.goals
  more : length b.hypotheses ≤ length H + 1
  fewer : length gs ≤ length b.goals + 1

module _ (th : Theory) (wf : IsWellFormed th) (G : List Place) where
  given_goal : (g : Goal) (gs : List Goal) → AreSortedGoals th (g ∷ gs) → IsWithinGoal g → IsGivenPair th (sides g)
  given_goal g gs s w =
      let x = (sorted_first th g gs s).sorted in
      record {
        left = record { sorted = x.left; within = w.left };
        right = record { sorted = x.right; within = w.right };
        same_sort = x.same_sort;
      }

  conds_here : (g : Goal) (gs : List Goal) → AreSortedGoals th (g ∷ gs) → (p : Pair) → Contains g.conds p → IsWellSortedPair th.signature p
  conds_here g gs s p c = ((sorted_first th g gs s).conds p c).sorted

  step_ranged : (s : ProofStep Tree) (H gs : List Goal) (b : State) → AreSortedGoals th H → AreSortedGoals th gs → length H < 2 ^ 32 → AreWithin gs
      → AllOfStep (IsWellSorted th.signature) s → FitsStep s → StepOn th G s H gs b → StepRanged s H gs b
  step_ranged (Simplify c) H [] b sh sg few w t f r = absurd r
  step_ranged (Simplify c) H (g ∷ gs) b sh sg few w t f r =
      let n = w.0.few in
      let x = chain_ranged (setting th G H g.conds) (small th wf G H sh few g.conds (conds_here g gs sg) (omega (arith, n))) c (sides g) r.0 (given_goal g gs sg w.0) t r.1 in
      let P : State → Type 0 = λ y. StepRanged (Simplify c) H (g ∷ gs) y in
      subst P (sym r.2) (record {
        ranged = x.ranged;
        within = (record { left = x.given.left.within; right = x.given.right.within; few = n }, w.1);
        more = omega arith;
        fewer = omega arith;
      })
  step_ranged (Reduce y) H [] b sh sg few w t f r = absurd r
  step_ranged (Reduce y) H (g ∷ gs) b sh sg few w t f r =
      let P : State → Type 0 = λ z. StepRanged (Reduce y) H (g ∷ gs) z in
      let n = w.0.few in
      subst P (sym r.1) (record {
        ranged = why_ranged th wf G H sh few 8 g.conds (conds_here g gs sg) (omega (arith, n)) y (sides g) (given_goal g gs sg w.0) t f r.0;
        within = w.1;
        more = omega arith;
        fewer = omega arith;
      })
  step_ranged Derive H [] b sh sg few w t f r = absurd r
  step_ranged Derive H (g ∷ gs) b sh sg few w t f r =
      let P : State → Type 0 = λ z. StepRanged Derive H (g ∷ gs) z in
      let long = length-append H (g ∷ []) in
      let grows = length-append gs (derivatives_on th g) in
      subst P (sym r.2) (record {
        ranged = tt;
        within = all_append IsWithinGoal gs (derivatives_on th g) w.1 (derived_within g w.0.few (derivatives_of th _) r.1);
        more = omega (arith, long);
        fewer = omega (arith, grows);
      })
  step_ranged (Cases u) H [] b sh sg few w t f r = absurd r
  step_ranged (Cases u) H (g ∷ gs) b sh sg few w t f r =
      let P : State → Type 0 = λ z. StepRanged (Cases u) H (g ∷ gs) z in
      let grows = length-append (cases_on g u (case_list (sort_of u) r.0)) gs in
      subst P (sym r.3) (record {
        ranged = tt;
        within = all_append IsWithinGoal (cases_on g u (case_list (sort_of u) r.0)) gs (cases_within g u (case_list (sort_of u) r.0) w.0 r.2 r.0) w.1;
        more = omega arith;
        fewer = omega (arith, grows);
      })
  step_ranged Done H [] b sh sg few w t f r =
      let P : State → Type 0 = λ z. StepRanged Done H [] z in
      subst P (sym r) (record { ranged = tt; within = tt; more = omega arith; fewer = omega arith })
  step_ranged Done H (g ∷ gs) b sh sg few w t f r = absurd r

  -- steps that run, and how many goals they can take
  pub record StepsRanged (ss : List (ProofStep Tree)) (a b : State) : Type 0 where
    pub ranged : AllByRecursion IsRangedStep ss
    pub fewer : length a.goals ≤ length b.goals + length ss

  pub steps_ranged : (ss : List (ProofStep Tree)) (a b : State) → IsSortedState th a → length a.hypotheses + length ss < 2 ^ 32 → AreWithin a.goals
      → AllByRecursion (AllOfStep (IsWellSorted th.signature)) ss → AllByRecursion FitsStep ss → StepsOf th G ss a b → StepsRanged ss a b
  steps_ranged [] a b s few w t f r =
      let P : State → Type 0 = λ y. StepsRanged [] a y in
      subst P r (record { ranged = tt; fewer = omega arith })
  steps_ranged (x ∷ ss) a b s few w t f r =
      let here = step_ranged x a.hypotheses a.goals r.0 s.0 s.1 (omega (arith, few)) w t.0 f.0 r.1 in
      let more = here.more in
      let fewer = here.fewer in
      let rest = steps_ranged ss r.0 b (step_sorted th wf G x t.0 a r.0 s r.1) (omega (arith, few, more)) here.within t.1 f.1 r.2 in
      let fewer_rest = rest.fewer in
      record { ranged = (here.ranged, rest.ranged); fewer = omega (arith, fewer, fewer_rest) }
