-- By induction on the level: the hypotheses at the end of a run agree at each level, and so do the goals at its start.
use Rattle.std.proofs.Common.{◌≡◌, ◌⊎◌, ℕ, zero, suc, List, [], ◌∷◌, ◌++◌, map, length, ◌≤◌, ◌==◌, inl, inr, refl, ap, sym, subst, ◌∙◌, arith}
use Rattle.std.specs.List.{AllByRecursion, Contains}
use Rattle.std.proofs.lemmas.Bool.{eq-eqb}
use Rattle.std.proofs.lemmas.List.Elements.{Contains-append_left, Contains-append_right, Contains-append_cases}
use Rattle.circ_term.specs.Tree.{Tree, Var, sort_of}
use Rattle.circ_term.specs.Substitution.{Substitution, instance}
use Rattle.circ_term.proofs.Instances.{instance-Var}
use Rattle.circ_theory.specs.Signature.{Signature, IsWellSorted}
use Rattle.circ_theory.specs.Theory.{Theory, Pair, goal, sides, instance_pair, CaseList, Derivative, IsHidden, IsWellSortedGoal}
use Rattle.circ_theory.specs.Derivable.{by_cases, is_case}
use Rattle.circ_theory.specs.Observing.{case_list}
use Rattle.circ_theory.specs.WellFormed.{IsWellFormed}
use Rattle.circ_theory.specs.Experiment.{plug, derived, Behaves}
use Rattle.circ_theory.specs.Fresh.{above_pairs, fresh_in, derivatives_of}
use Rattle.circ_theory.specs.Goal.{Goal}
use Rattle.circ_theory.proofs.Behaviour.{plug_substitution}
use Rattle.circ_theory.proofs.Casing.{contains_first}
use Rattle.circ_theory.proofs.Instances.{sort_of-instance_by, instance_well_sorted}
use Rattle.circ_theory.proofs.Weakening.{in_rest, weaken}
use Rattle.circ_special.specs.declared.place.Place.{Place}
use Rattle.circ_proof.specs.Goals.{AreSortedGoals, with_cond}
use Rattle.circ_proof.specs.Link.{setting}
use Rattle.circ_proof.specs.Rules.{State, state, ProofStep, Simplify, Reduce, Derive, Cases, Done, AllOfStep, IsSortedState, StepOn, StepsOf}
use Rattle.circ_proof.specs.Rules.{derived_goal, derivatives_on, cases_on}
use Rattle.circ_proof.proofs.Cases.{cases_listed}
use Rattle.circ_proof.proofs.Leading.{conditions_sorted}
use Rattle.circ_proof.proofs.Stepping.{step_sorted, steps_sorted, steps_grow}
use Rattle.circ_soundness.specs.Levels.{AgreeGoal, AgreeGoals, HypothesesAgree, PlacesAgree}
use Rattle.circ_proof.proofs.Members.{nothing, pick, in_map, in_filter, last_first}
use Rattle.circ_soundness.proofs.Parameters.{with_parameters, with_parameters_sorted, derived-with_parameters, instance_below}
use Rattle.circ_soundness.proofs.Agreeing.{fits_same}
use Rattle.circ_soundness.proofs.Keeping.{IsGood, instance_pairs-Var}
use Rattle.circ_soundness.proofs.Justifying.{chain_joins, joins_agree, justified_agrees}

-- Steps that name well-sorted terms, and lead from a well-sorted state to one in which no goal is left.
pub record IsRun (th : Theory) (G : List Place) (ss : List (ProofStep Tree)) (a b : State) : Type 0 where
  pub well_formed : IsWellFormed th
  pub terms : AllByRecursion (AllOfStep (IsWellSorted th.signature)) ss
  pub sorted : IsSortedState th a
  pub steps : StepsOf th G ss a b
  pub ended : b.goals ≡ []

rest_runs : (th : Theory) (G : List Place) (s : ProofStep Tree) (ss : List (ProofStep Tree)) (a b : State) → (r : IsRun th G (s ∷ ss) a b)
    → IsRun th G ss r.steps.0 b
rest_runs th G s ss a b r = record {
  well_formed = r.well_formed;
  terms = r.terms.1;
  sorted = step_sorted th r.well_formed G s r.terms.0 a r.steps.0 r.sorted r.steps.1;
  steps = r.steps.2;
  ended = r.ended;
}

-- hypotheses stay
kept : (th : Theory) (G : List Place) (ss : List (ProofStep Tree)) (a b : State) → StepsOf th G ss a b → (h : Goal) → Contains a.hypotheses h
    → Contains b.hypotheses h
kept th G ss a b r h c =
    let g = steps_grow th G ss a b r in
    let P : List Goal → Type 0 = λ K. Contains K h in
    subst P (sym g.whole) (Contains-append_left a.hypotheses g.appended h c)

fewer_agree : (th : Theory) (n : ℕ) (H K : List Goal) → ((h : Goal) → Contains H h → Contains K h) → HypothesesAgree th n K → HypothesesAgree th n H
fewer_agree th n H K w a = record { sorted = λ h c. a.sorted h (w h c); agree = λ h c. a.agree h (w h c) }

-- ---- goals

-- a goal agrees where it does in each case of a term
cases_agree : (th : Theory) (n : ℕ) (g : Goal) (u : Tree) (l : CaseList) → Contains th.cases l → IsWellSorted th.signature u → sort_of u ≡ l.sort
    → AgreeGoals th n (cases_on g u l) → AgreeGoal th n g
cases_agree th n g u l cl wu e a σ i cs le fit =
    by_cases (instance σ u) l cl (instance_well_sorted th.signature σ u i wu) (sort_of-instance_by th.signature σ u i wu ∙ e)
    (λ k ck.
    let case = with_cond g (is_case u l k) in
    let there = in_map (λ m. with_cond g (is_case u l m)) l.constants k ck in
    weaken th (a case there σ i cs le fit) (is_case (instance σ u) l k ∷ map (instance_pair σ) g.conds)
    (λ y d. last_first (instance_pair σ) g.conds (is_case u l k) y d))

-- where hypotheses, and the goals after a step, agree, so do the goals before it
step_agrees : (th : Theory) → IsWellFormed th → (G : List Place) (n : ℕ) → PlacesAgree th G n → (s : ProofStep Tree) → AllOfStep (IsWellSorted th.signature) s
    → (H gs : List Goal) (b : State) → AreSortedGoals th gs → StepOn th G s H gs b → HypothesesAgree th n H → HypothesesAgree th n b.hypotheses
    → AgreeGoals th n b.goals → AgreeGoals th n gs
step_agrees th ok G n pl (Simplify chain) f H [] b w r a k after g c = absurd r
step_agrees th ok G n pl (Simplify chain) f H (h ∷ hs) b w r a k after g c =
    let set = setting th G H h.conds in
    let wh = w h (contains_first h hs) in
    let good : IsGood set n = record { well_formed = ok; assumptions = conditions_sorted th h.conds wh.conds; hypotheses = a; places = pl } in
    let sorted = wh.sorted in
    let q : Pair = r.0 in
    let new : Goal = goal h.conds q.left q.right in
    let join = chain_joins set n good chain f (sides h) q sorted r.1 in
    let P : State → Type 0 = λ x. AgreeGoals th n x.goals in
    let next : AgreeGoals th n (new ∷ hs) = subst P r.2 after in
    let here : AgreeGoal th n h = λ σ i. joins_agree set n (sides h) q sorted join σ i (next new (contains_first new hs) σ i) in
    pick (AgreeGoal th n) h g hs here (λ d. next g (in_rest new g hs d)) c
step_agrees th ok G n pl (Reduce why) f H [] b w r a k after g c = absurd r
step_agrees th ok G n pl (Reduce why) f H (h ∷ hs) b w r a k after g c =
    let set = setting th G H h.conds in
    let wh = w h (contains_first h hs) in
    let good : IsGood set n = record { well_formed = ok; assumptions = conditions_sorted th h.conds wh.conds; hypotheses = a; places = pl } in
    let P : State → Type 0 = λ x. AgreeGoals th n x.goals in
    let here : AgreeGoal th n h = justified_agrees set n good (sides h) wh.sorted why f r.0 in
    pick (AgreeGoal th n) h g hs here (subst P r.1 after g) c
step_agrees th ok G n pl Derive f H [] b w r a k after g c = absurd r
step_agrees th ok G n pl Derive f H (h ∷ hs) b w r a k after g c =
    let P : State → Type 0 = λ x. AgreeGoals th n x.goals in
    let Q : State → Type 0 = λ x. HypothesesAgree th n x.hypotheses in
    let new : HypothesesAgree th n (H ++ h ∷ []) = subst Q r.2 k in
    pick (AgreeGoal th n) h g hs (new.agree h (Contains-append_right H (h ∷ []) h (contains_first h [])))
    (λ d. subst P r.2 after g (Contains-append_left hs (derivatives_on th h) g d)) c
step_agrees th ok G n pl (Cases u) f H [] b w r a k after g c = absurd r
step_agrees th ok G n pl (Cases u) f H (h ∷ hs) b w r a k after g c =
    let l = case_list (sort_of u) r.0 in
    let new = cases_on h u l in
    let P : State → Type 0 = λ x. AgreeGoals th n x.goals in
    let next : AgreeGoals th n (new ++ hs) = subst P r.3 after in
    let here : AgreeGoal th n h = cases_agree th n h u l (cases_listed th (sort_of u) r.0 r.1) f refl (λ x d. next x (Contains-append_left new hs x d)) in
    pick (AgreeGoal th n) h g hs here (λ d. next g (Contains-append_right new hs g d)) c
step_agrees th ok G n pl Done f H [] b w r a k after g c = nothing g c
step_agrees th ok G n pl Done f H (h ∷ hs) b w r a k after g c = absurd r

-- where the hypotheses at the end agree, so do the goals at the start
pub goals_agree : (th : Theory) (G : List Place) (n : ℕ) → PlacesAgree th G n → (ss : List (ProofStep Tree)) (a b : State) → IsRun th G ss a b
    → HypothesesAgree th n b.hypotheses → AgreeGoals th n a.goals
goals_agree th G n pl [] a b r k g c = let P : List Goal → Type 0 = λ gs. Contains gs g in nothing g (subst P (ap (λ x. x.goals) r.steps ∙ r.ended) c)
goals_agree th G n pl (s ∷ ss) a b r k g c =
    let m : State = r.steps.0 in
    let after : HypothesesAgree th n m.hypotheses = fewer_agree th n m.hypotheses b.hypotheses (kept th G ss m b r.steps.2) k in
    let before : HypothesesAgree th n a.hypotheses = fewer_agree th n a.hypotheses b.hypotheses (kept th G (s ∷ ss) a b r.steps) k in
    step_agrees th r.well_formed G n pl s r.terms.0 a.hypotheses a.goals m r.sorted.1 r.steps.1 before after
    (goals_agree th G n pl ss m b (rest_runs th G s ss a b r) k) g c

-- ---- derived hypotheses

-- a hypothesis that Derive appended: it is of hidden sort, and its derivatives are goals then
record IsAppended (th : Theory) (b : State) (h : Goal) : Type 0 where
  hidden : IsHidden th (sort_of h.left)
  goals : (g : Goal) → Contains (derivatives_on th h) g → Contains b.goals g

same_hypotheses : (th : Theory) (H gs : List Goal) (b : State) (h : Goal) → b ≡ state H gs → Contains b.hypotheses h → Contains H h ⊎ IsAppended th b h
same_hypotheses th H gs b h e c = let P : State → Type 0 = λ x. Contains x.hypotheses h in inl (subst P e c)

step_appends : (th : Theory) (G : List Place) (s : ProofStep Tree) (H gs : List Goal) (b : State) → StepOn th G s H gs b
    → (h : Goal) → Contains b.hypotheses h → Contains H h ⊎ IsAppended th b h
step_appends th G (Simplify chain) H [] b r h c = absurd r
step_appends th G (Simplify chain) H (g ∷ gs) b r h c = same_hypotheses th H (goal g.conds r.0.left r.0.right ∷ gs) b h r.2 c
step_appends th G (Reduce why) H [] b r h c = absurd r
step_appends th G (Reduce why) H (g ∷ gs) b r h c = same_hypotheses th H gs b h r.1 c
step_appends th G Derive H [] b r h c = absurd r
step_appends th G Derive H (g ∷ gs) b r h c =
    let P : State → Type 0 = λ x. Contains x.hypotheses h in
    let this : IsAppended th b g = record {
      hidden = r.0;
      goals = λ x d. let Q : State → Type 0 = λ y. Contains y.goals x in subst Q (sym r.2) (Contains-append_right gs (derivatives_on th g) x d);
    } in
    elim (Contains-append_cases H (g ∷ []) h (subst P r.2 c)) [
      | inl d ↦ inl d
      | inr d ↦ inr (pick (IsAppended th b) g h [] this (λ x. nothing h x) d)
    ]
step_appends th G (Cases u) H [] b r h c = absurd r
step_appends th G (Cases u) H (g ∷ gs) b r h c = same_hypotheses th H (cases_on g u (case_list (sort_of u) r.0) ++ gs) b h r.3 c
step_appends th G Done H [] b r h c = same_hypotheses th H [] b h r c
step_appends th G Done H (g ∷ gs) b r h c = absurd r

-- a hypothesis that a run derived: from some state on, the rest of the run starts with its derivatives among the goals
pub record IsDerived (th : Theory) (G : List Place) (b : State) (h : Goal) : Type 0 where
  pub hidden : IsHidden th (sort_of h.left)
  pub steps : List (ProofStep Tree)
  pub from : State
  pub run : IsRun th G steps from b
  pub goals : (g : Goal) → Contains (derivatives_on th h) g → Contains from.goals g

pub given_or_derived : (th : Theory) (G : List Place) (ss : List (ProofStep Tree)) (a b : State) → IsRun th G ss a b → (h : Goal) → Contains b.hypotheses h
    → Contains a.hypotheses h ⊎ IsDerived th G b h
given_or_derived th G [] a b r h c = let P : State → Type 0 = λ x. Contains x.hypotheses h in inl (subst P (sym r.steps) c)
given_or_derived th G (s ∷ ss) a b r h c =
    let m : State = r.steps.0 in
    let rest = rest_runs th G s ss a b r in
    elim (given_or_derived th G ss m b rest h c) [
      | inl d ↦ elim (step_appends th G s a.hypotheses a.goals m r.steps.1 h d) [
        | inl x ↦ inl x
        | inr x ↦ inr (record { hidden = x.hidden; steps = ss; from = m; run = rest; goals = x.goals })
      ]
      | inr x ↦ inr x
    ]

-- ---- levels

-- goals of hidden sort agree at level 0, since no experiment without entries fits them
level_zero : (th : Theory) (h : Goal) → IsWellSortedGoal th h → IsHidden th (sort_of h.left) → AgreeGoal th 0 h
level_zero th h w x σ i [] l f =
    let P : ℕ → Type 0 = IsHidden th in absurd (f (subst P (sym (sort_of-instance_by th.signature σ h.left i w.sorted.left)) x))
level_zero th h w x σ i (c ∷ cs) l f = absurd (omega (arith, l))

instance_pairs_below : (k : ℕ) (σ p : Substitution) (E : List Pair) → above_pairs E ≤ k → map (instance_pair (with_parameters k σ p)) E ≡ map (instance_pair σ) E
instance_pairs_below k σ p [] h = refl
instance_pairs_below k σ p (q ∷ E) h =
    let l = instance_below k σ p q.left (omega (arith, h)) in
    let r = instance_below k σ p q.right (omega (arith, h)) in
    let rest = instance_pairs_below k σ p E (omega (arith, h)) in
    rw (l, r, rest) refl

-- and at level n + 1 where their derivatives agree at level n
level_next : (th : Theory) → IsWellFormed th → (n : ℕ) (h : Goal) → IsWellSortedGoal th h → IsHidden th (sort_of h.left) → AgreeGoals th n (derivatives_on th h)
    → AgreeGoal th (suc n) h
level_next th ok n h w x next σ i [] l f =
    let P : ℕ → Type 0 = IsHidden th in absurd (f (subst P (sym (sort_of-instance_by th.signature σ h.left i w.sorted.left)) x))
level_next th ok n h w x next σ i (c ∷ cs) l f =
    let sig : Signature = th.signature in
    let d : Derivative = c.derivative in
    let p : Substitution = c.parameters in
    let k : ℕ = fresh_in h in
    let der = ok.derivatives d f.0 in
    let hole : d.hole ≡ sort_of h.left = f.1 ∙ sort_of-instance_by sig σ h.left i w.sorted.left in
    let listed : Contains (derivatives_on th h) (derived_goal d h k) =
    in_map (λ y. derived_goal y h k) (derivatives_of th (sort_of h.left)) d
    (in_filter (λ y. y.hole == sort_of h.left) th.derivatives d (eq-eqb d.hole (sort_of h.left) hole) f.0) in
    let a = next (derived_goal d h k) listed (with_parameters k σ p) (with_parameters_sorted sig k σ p i f.2) in
    let left = derived-with_parameters sig d der k σ p h.left (omega arith) in
    let right = derived-with_parameters sig d der k σ p h.right (omega arith) in
    let conds = instance_pairs_below k σ p h.conds (omega arith) in
    let b = rw (left, right, conds) at a in
    let whole = plug_substitution sig d.hole (instance σ h.left) p (sym f.1) (instance_well_sorted sig σ h.left i w.sorted.left) f.2 in
    let sort = sort_of-instance_by sig (plug d.hole (instance σ h.left) p) d.body whole der.body in
    b cs (omega (arith, l)) (fits_same th cs (sort_of d.body) (sort_of (derived d (instance σ h.left) p)) (sym sort) f.3)

-- the hypotheses at the end of a run agree at each level where those at its start do
pub levels : (th : Theory) (G : List Place) → ((n : ℕ) → PlacesAgree th G n) → (ss : List (ProofStep Tree)) (a b : State) → IsRun th G ss a b
    → ((n : ℕ) → HypothesesAgree th n a.hypotheses) → (n : ℕ) → HypothesesAgree th n b.hypotheses
levels th G pl ss a b r start zero =
    let end = steps_sorted th r.well_formed G ss r.terms a b r.sorted r.steps in
    record {
      sorted = end.0;
      agree = λ h c. elim (given_or_derived th G ss a b r h c) [
        | inl d ↦ (start zero).agree h d
        | inr x ↦ level_zero th h (end.0 h c) x.hidden
      ];
    }
levels th G pl ss a b r start (suc n) =
    let before = levels th G pl ss a b r start n in
    record {
      sorted = before.sorted;
      agree = λ h c. elim (given_or_derived th G ss a b r h c) [
        | inl d ↦ (start (suc n)).agree h d
        | inr x ↦
            let all = goals_agree th G n (pl n) x.steps x.from b x.run before in
            level_next th r.well_formed n h (before.sorted h c) x.hidden (λ g d. all g (x.goals g d))
      ];
    }

-- what agrees at each level behaves
pub levels_behave : (th : Theory) (g : Goal) → ((n : ℕ) → AgreeGoal th n g) → Behaves th g
levels_behave th g a cs f =
    let b = rw (instance_pairs-Var g.conds, instance-Var g.left, instance-Var g.right) at (a (length cs) Var (λ n s h. (refl, h))) in
    b cs (omega arith) f
