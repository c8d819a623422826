-- Steps lead from a state to one state at most. They keep it well-sorted, and their hypotheses grow at the end.
use Rattle.std.specs.Prelude.{◌≡◌, ℕ, List, [], ◌∷◌, ◌++◌, map, refl}
use Rattle.std.specs.List.{AllByRecursion}
use Rattle.std.proofs.Common.{ap, sym, ◌∙◌, subst, append_assoc, append-nil}
use Rattle.std.proofs.lemmas.Option.{same_Some}
use Rattle.circ_term.specs.Tree.{Tree, sort_of}
use Rattle.circ_theory.specs.Signature.{IsWellSorted}
use Rattle.circ_theory.specs.Theory.{Theory, goal, sides}
use Rattle.circ_theory.specs.Observing.{case_list}
use Rattle.circ_theory.specs.WellFormed.{IsWellFormed}
use Rattle.circ_theory.specs.Goal.{Goal}
use Rattle.circ_special.specs.declared.place.Place.{Place}
use Rattle.circ_proof.specs.Goals.{AreSortedGoals}
use Rattle.circ_proof.specs.Link.{setting}
use Rattle.circ_proof.specs.Rules.{State, state, IsSortedState, ProofStep, Simplify, Reduce, Derive, Cases, Done, AllOfStep, StepOn, StepOf, StepsOf, derivatives_on, cases_on, map_step}
use Rattle.circ_proof.specs.Proof.{IsEnded}
use Rattle.circ_proof.proofs.Leading.{one_chain, chain_sorted, sorted_setting, conditions_sorted}
use Rattle.circ_proof.proofs.Cases.{cases_listed, cases_sorted}
use Rattle.circ_proof.proofs.Running.{LeadsToOne}
use Rattle.circ_proof.proofs.Sorted.{sorted_none, sorted_more, sorted_first, sorted_rest, sorted_append, derivatives_sorted}

-- ---- one state

one_state : (th : Theory) (G : List Place) (s : ProofStep Tree) (H gs : List Goal) (b c : State) → StepOn th G s H gs b → StepOn th G s H gs c → b ≡ c
one_state th G (Simplify chain) H [] b c r s = absurd r
one_state th G (Simplify chain) H (g ∷ gs) b c r s =
    r.2 ∙ ap (λ q. state H (goal g.conds q.left q.right ∷ gs)) (one_chain (setting th G H g.conds) chain (sides g) r.0 s.0 r.1 s.1) ∙ sym s.2
one_state th G (Reduce why) H [] b c r s = absurd r
one_state th G (Reduce why) H (g ∷ gs) b c r s = r.1 ∙ sym s.1
one_state th G Derive H [] b c r s = absurd r
one_state th G Derive H (g ∷ gs) b c r s = r.2 ∙ sym s.2
one_state th G (Cases u) H [] b c r s = absurd r
one_state th G (Cases u) H (g ∷ gs) b c r s =
    r.3 ∙ ap (λ ks. state H (cases_on g u (case_list (sort_of u) ks) ++ gs)) (same_Some r.0 s.0 (sym r.1 ∙ s.1)) ∙ sym s.3
one_state th G Done H [] b c r s = r ∙ sym s
one_state th G Done H (g ∷ gs) b c r s = absurd r

pub step_one : (th : Theory) (G : List Place) → LeadsToOne (StepOf th G)
step_one th G s a b c r t = one_state th G s a.hypotheses a.goals b c r t

-- ---- well-sorted states

step_on_sorted : (th : Theory) → IsWellFormed th → (G : List Place) (s : ProofStep Tree) → AllOfStep (IsWellSorted th.signature) s
    → (H gs : List Goal) → AreSortedGoals th H → AreSortedGoals th gs → (b : State) → StepOn th G s H gs b → IsSortedState th b
step_on_sorted th ok G (Simplify chain) a H [] sh sg b r = absurd r
step_on_sorted th ok G (Simplify chain) a H (g ∷ gs) sh sg b r =
    let w = sorted_first th g gs sg in
    let set = sorted_setting th ok G H g.conds sh (conditions_sorted th g.conds w.conds) in
    let q = chain_sorted (setting th G H g.conds) set chain a (sides g) r.0 w.sorted r.1 in
    subst (IsSortedState th) (sym r.2)
    (sh, sorted_more th (goal g.conds r.0.left r.0.right) gs (record { sorted = q; conds = w.conds }) (sorted_rest th g gs sg))
step_on_sorted th ok G (Reduce why) a H [] sh sg b r = absurd r
step_on_sorted th ok G (Reduce why) a H (g ∷ gs) sh sg b r = subst (IsSortedState th) (sym r.1) (sh, sorted_rest th g gs sg)
step_on_sorted th ok G Derive a H [] sh sg b r = absurd r
step_on_sorted th ok G Derive a H (g ∷ gs) sh sg b r =
    let w = sorted_first th g gs sg in
    subst (IsSortedState th) (sym r.2) (
      sorted_append th H (g ∷ []) sh (sorted_more th g [] w (sorted_none th)),
      sorted_append th gs (derivatives_on th g) (sorted_rest th g gs sg) (derivatives_sorted th ok g w),
    )
step_on_sorted th ok G (Cases u) a H [] sh sg b r = absurd r
step_on_sorted th ok G (Cases u) a H (g ∷ gs) sh sg b r =
    let l = case_list (sort_of u) r.0 in
    subst (IsSortedState th) (sym r.3) (
      sh,
      sorted_append th (cases_on g u l) gs (cases_sorted th ok g (sorted_first th g gs sg) u a l (cases_listed th (sort_of u) r.0 r.1) refl)
          (sorted_rest th g gs sg),
    )
step_on_sorted th ok G Done a H [] sh sg b r = subst (IsSortedState th) (sym r) (sh, sorted_none th)
step_on_sorted th ok G Done a H (g ∷ gs) sh sg b r = absurd r

pub step_sorted : (th : Theory) → IsWellFormed th → (G : List Place) (s : ProofStep Tree) → AllOfStep (IsWellSorted th.signature) s
    → (a b : State) → IsSortedState th a → StepOf th G s a b → IsSortedState th b
step_sorted th ok G s t a b w r = step_on_sorted th ok G s t a.hypotheses a.goals w.0 w.1 b r

pub steps_sorted : (th : Theory) → IsWellFormed th → (G : List Place) (ss : List (ProofStep Tree)) → AllByRecursion (AllOfStep (IsWellSorted th.signature)) ss
    → (a b : State) → IsSortedState th a → StepsOf th G ss a b → IsSortedState th b
steps_sorted th ok G [] ts a b w r = subst (IsSortedState th) r w
steps_sorted th ok G (s ∷ ss) ts a b w r = steps_sorted th ok G ss ts.1 r.0 b (step_sorted th ok G s ts.0 a r.0 w r.1) r.2

-- ---- hypotheses grow

-- the hypotheses K are H and those that were appended
pub record Grows (H K : List Goal) : Type 0 where
  pub appended : List Goal
  pub whole : K ≡ H ++ appended

stays : (H gs : List Goal) (b : State) → b ≡ state H gs → Grows H b.hypotheses
stays H gs b e = record { appended = []; whole = ap (λ x. x.hypotheses) e ∙ sym (append-nil H) }

step_on_grows : (th : Theory) (G : List Place) (s : ProofStep Tree) (H gs : List Goal) (b : State) → StepOn th G s H gs b → Grows H b.hypotheses
step_on_grows th G (Simplify chain) H [] b r = absurd r
step_on_grows th G (Simplify chain) H (g ∷ gs) b r = stays H (goal g.conds r.0.left r.0.right ∷ gs) b r.2
step_on_grows th G (Reduce why) H [] b r = absurd r
step_on_grows th G (Reduce why) H (g ∷ gs) b r = stays H gs b r.1
step_on_grows th G Derive H [] b r = absurd r
step_on_grows th G Derive H (g ∷ gs) b r = record { appended = g ∷ []; whole = ap (λ x. x.hypotheses) r.2 }
step_on_grows th G (Cases u) H [] b r = absurd r
step_on_grows th G (Cases u) H (g ∷ gs) b r = stays H (cases_on g u (case_list (sort_of u) r.0) ++ gs) b r.3
step_on_grows th G Done H [] b r = stays H [] b r
step_on_grows th G Done H (g ∷ gs) b r = absurd r

pub steps_grow : (th : Theory) (G : List Place) (ss : List (ProofStep Tree)) (a b : State) → StepsOf th G ss a b → Grows a.hypotheses b.hypotheses
steps_grow th G [] a b r = record { appended = []; whole = ap (λ x. x.hypotheses) (sym r) ∙ sym (append-nil a.hypotheses) }
steps_grow th G (s ∷ ss) a b r =
    let x = step_on_grows th G s a.hypotheses a.goals r.0 r.1 in
    let y = steps_grow th G ss r.0 b r.2 in
    record { appended = x.appended ++ y.appended; whole = y.whole ∙ ap (λ h. h ++ y.appended) x.whole ∙ append_assoc a.hypotheses x.appended y.appended }

-- ---- Done

-- behind Done no goal is left
done_on : (th : Theory) (G : List Place) (H gs : List Goal) (b : State) → StepOn th G Done H gs b → b.goals ≡ []
done_on th G H [] b r = ap (λ x. x.goals) r
done_on th G H (g ∷ gs) b r = absurd r

pub done_ends : (th : Theory) (G : List Place) (a b : State) → StepOf th G Done a b → b.goals ≡ []
done_ends th G a b r = done_on th G a.hypotheses a.goals b r

-- a list of steps whose last is Done leads to no goal
pub steps_end : (th : Theory) (G : List Place) (name : ℕ → Tree) (ss : List (ProofStep ℕ)) (a b : State) → IsEnded ss
    → StepsOf th G (map (map_step name) ss) a b → b.goals ≡ []
steps_end th G name [] a b e r = absurd e
steps_end th G name (s ∷ []) a b e r =
    let last : StepOf th G Done a r.0 = subst (λ x. StepOf th G (map_step name x) a r.0) e r.1 in
    ap (λ x. x.goals) (sym r.2) ∙ done_ends th G a r.0 last
steps_end th G name (s ∷ t ∷ ss) a b e r = steps_end th G name (t ∷ ss) r.0 b e.1 r.2
