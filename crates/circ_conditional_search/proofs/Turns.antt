-- A turn keeps what is known of the search, and the search ends with every goal done only where each block is whole.
use Rattle.circ_plain_search.proofs.Runs.{most, half, bound, goals_of, goals_of_more}
use Rattle.circ_plain_search.proofs.Turns.{chain_fine, whys_fine, if_ended, if_false, unless_passed}
use Rattle.std.proofs.Common.{◌≡◌, ℕ, zero, suc, ◌+◌, ◌*◌, ◌≤◌, Bool, true, false, if◌then◌else◌, List, [], ◌∷◌, ◌++◌, map, Option, Some, None, Result, Ok, refl, ap, sym, subst, ◌∙◌, arith, ◌&&◌, ◌<◌, ◌-◌, length, length-append}
use Rattle.std.specs.Prelude.{nat_le, not, nat_lt}
use Rattle.std.specs.List.{slice_get, AllByRecursion, Contains}
use Rattle.std.proofs.lemmas.Option.{same_Some}
use Rattle.circ_term.specs.Tree.{Tree, sort_of}
use Rattle.circ_theory.specs.Theory.{Theory, IsHidden, Pair, goal, sides}
use Rattle.circ_theory.specs.WellFormed.{IsWellFormed}
use Rattle.circ_theory.specs.Observing.{is_hidden, case_list, cases_of}
use Rattle.circ_theory.specs.Goal.{Goal}
use Rattle.circ_proof.specs.Goals.{AreSortedGoals, with_cond}
use Rattle.circ_theory.specs.Limits.{condition_limit}
use Rattle.circ_theory.proofs.Casing.{hidden_tells, contains_first, contains_next}
use Rattle.circ_theory.proofs.Lists.{slice_get-front, all_push, all_at}
use Rattle.circ_special.specs.declared.place.Place.{Place}
use Rattle.circ_proof.specs.Plain.{LinkOf, ChainOf, WhyOf, WhysOf, Same_why, Split_why}
use Rattle.circ_proof.specs.Runs.{Runs}
use Rattle.circ_proof.specs.Link.{Setting, setting, Leads}
use Rattle.circ_proof.specs.Justified.{Justified, AllOfChain}
use Rattle.circ_proof.proofs.Cases.{cases_listed}
use Rattle.circ_proof.specs.Rules.{ProofStep, Simplify, Reduce, Derive, Done, derivatives_on, Cases, cases_on, state}
use Rattle.circ_proof.specs.Proof.{step_limit, split_limit}
use Rattle.circ_rewrite.specs.Links.{IsRuleOf}
use Rattle.circ_plain_search.specs.BlockRules.{block_rules, hidden_lemmas}
use Rattle.circ_plain_search.specs.Joining.{HypothesisUse, use_link, put_all, and_then, first_open, is_open}
use Rattle.circ_conditional_search.specs.Joining.{work_then, joined_trying, Swept, swept_with, swept_trying}
use Rattle.circ_plain_search.specs.Search.{Limits, proved_block, Standing, Ending, Sides, sides_with, chain_with, chained, no_links, spent, or_end, is_nil, has_links, next_goal, goals_limit, unless_past, derive_turn, begun, with_this, next_block, case_of, constants_of}
use Rattle.circ_conditional_search.specs.Search.{Manner, normal_sides_trying, split_cases_trying, step_recorded, with_sides_of, goal_reduced, goal_simplified, hidden_turn_trying, visible_turn_trying, open_turn_trying, swept_sides_trying, pass_turn_trying, join_turn_trying, sides_turn_trying, goal_turn_trying, turn_trying_at, turn_trying, worked, cases_turn, case_term, derives_turn, first_open_of, pass_chain, condition_normaliser}
use Rattle.circ_plain_search.specs.Numbering.{chain_terms, why_terms, whys_terms}
use Rattle.circ_plain_search.proofs.Terms.{Fine, FineTerms, fine_more}
use Rattle.circ_plain_search.proofs.Led.{all_append, runs_append, links_more}
use Rattle.circ_conditional_search.proofs.Nesting.{NestsIn, ChainNests, IsNesting, norm_nests}
use Rattle.circ_conditional_search.proofs.Led.{Led}
use Rattle.circ_plain_search.proofs.Rules.{BeginsWith, block_rules_are, hidden_lemmas_are}
use Rattle.circ_plain_search.proofs.Uses.{Through, through, same_Ok}
use Rattle.circ_conditional_search.proofs.Joins.{joined_leads}
use Rattle.circ_conditional_search.proofs.Passes.{swept_leads}
use Rattle.circ_conditional_search.proofs.Splits.{FitsIn, AllFitIn, normal_sides_led, split_is, open_has_cases, either_open, first_open_is, IsFineOpen, constant_sorted}
use Rattle.circ_conditional_search.proofs.Derived.{FineGoal, FineGoals, goal_more, goals_sorted, IsFineDerived, derivatives_fine, FineCond, goals_more}
use Rattle.circ_conditional_search.proofs.Runs.{Ran, after_step, recorded, recorded_room, ran_more, ran_same, Held, Opened, fresh_queue, Whole, done_whole, original}
use Rattle.std.specs.Option.{option_map_or}
use Rattle.std.proofs.lemmas.Bool.{and_parts}
use Rattle.circ_conditional_norm.specs.Work.{Work, Made, Out, Past}
use Rattle.circ_conditional_norm.specs.Tries.{Normaliser}
use Rattle.circ_conditional_norm.specs.Norm.{try_limit}
use Rattle.circ_conditional_norm.proofs.Linked.{IsLinking, norm_links}
use Rattle.circ_conditional_search.proofs.Normals.{IsAssumption, IsFining, norm_fine, sorted_assumptions}

pub worked_is : {A B : Type 0} (l : Limits) (st : Standing) (w : Work A) (f : A → Standing → Result B Ending) (y : B) → worked l st w f ≡ Ok y
    → (a : A) × (k : ℕ) × (w ≡ Made a k) × (f a (record st { budget = k }) ≡ Ok y)
worked_is l st (Made a k) f y e = (a, k, refl, e)
worked_is l st Out f y e = absurd (cc)
worked_is l st (Past x k) f y e = absurd (cc)

module _ (th : Theory) (wf : IsWellFormed th) (G : List Place) (l : Manner) (blocks : List (List Goal)) where
  abbrev pub Good : Standing → Type 0
  Good st = Opened th G blocks st st.queue

  abbrev pub around : List Goal → List Pair → Setting
  around H A = setting th G H A

  pub bound_small : (st : Standing) (Q : List Goal) → Ran th G blocks st Q → bound st ≤ most
  bound_small st Q r = let a = r.few in let b = r.small in omega (arith, a, b)

  pub well : (st : Standing) (Q : List Goal) → Ran th G blocks st Q → AreSortedGoals th st.hypotheses
  well st Q r = goals_sorted th (bound st) st.hypotheses r.fine

  pub rules_here : (st : Standing) (Q : List Goal) → Ran th G blocks st Q → AllByRecursion (IsRuleOf th st.hypotheses) (block_rules th st.earlier)
  rules_here st Q r = block_rules_are th wf st.hypotheses st.earlier (well st Q r) r.begins

  pub assumptions_of : (m : ℕ) (ps : List Pair) → AllByRecursion (FineCond th m) ps → AllByRecursion (IsAssumption th m) ps
  assumptions_of m [] a = tt
  assumptions_of m (p ∷ ps) a = (
    record { sorted = record { left = a.0.left.sorted; right = a.0.right.sorted; same_sort = a.0.same_sort }; low = a.0.right.low },
    assumptions_of m ps a.1,
  )

  -- how conditions are normalised makes links, of fine terms
  pub cond_links : (st : Standing) (Q : List Goal) → Ran th G blocks st Q → (E : List Pair) → AllByRecursion (FineCond th (bound st)) E
      → IsLinking (around st.hypotheses E) (condition_normaliser th st.earlier E)
  cond_links st Q r E f =
      norm_links (around st.hypotheses E) wf
      (sorted_assumptions th wf (bound st) (omega arith) st.hypotheses (block_rules th st.earlier) (rules_here st Q r) E (assumptions_of (bound st) E f) E (assumptions_of (bound st) E f))
      (block_rules th st.earlier) (rules_here st Q r) (try_limit - 1)

  pub cond_fine : (st : Standing) (Q : List Goal) → Ran th G blocks st Q → (E : List Pair) → AllByRecursion (FineCond th (bound st)) E
      → IsFining th (bound st) (condition_normaliser th st.earlier E)
  cond_fine st Q r E f =
      norm_fine th wf (bound st) (omega arith) st.hypotheses (block_rules th st.earlier) (rules_here st Q r) E (assumptions_of (bound st) E f) (try_limit - 1)

  -- ---- the sides of the goal in hand

  pub sides_held : (st : Standing) (p : Pair) (g : Goal) (rest : List Goal) (n : Sides) → Held th G blocks st p g rest
      → Led (around st.hypotheses g.conds) (bound st) n.chain.left g.left n.left → Led (around st.hypotheses g.conds) (bound st) n.chain.right g.right n.right
      → Held th G blocks (with_sides_of st g rest n) p (goal g.conds n.left n.right) rest
  sides_held st p g rest n h s t =
      let small = bound_small st (original p g ∷ rest) h.ran in
      record {
        ran = ran_same th G blocks st (original p g ∷ rest) (goal g.conds n.left n.right ∷ rest) (chained st.chain n.chain) n.budget h.ran;
        left = runs_append (Leads (around st.hypotheses g.conds)) st.chain.left n.chain.left p.left g.left n.left h.left s.leads;
        right = runs_append (Leads (around st.hypotheses g.conds)) st.chain.right n.chain.right p.right g.right n.right h.right t.leads;
        links = (
          all_append _ st.chain.left n.chain.left h.links.0 (links_more th (bound st) most n.chain.left small s.terms),
          all_append _ st.chain.right n.chain.right h.links.1 (links_more th (bound st) most n.chain.right small t.terms),
        );
        nests = (all_append (NestsIn 8) st.chain.left n.chain.left h.nests.0 s.nests, all_append (NestsIn 8) st.chain.right n.chain.right h.nests.1 t.nests);
        fine = record {
          left = s.fine;
          right = t.fine;
          same_sort = t.same_sort ∙ h.fine.same_sort ∙ sym s.same_sort;
          conds = h.fine.conds;
          few = h.fine.few;
        };
        fine_rest = h.fine_rest;
      }

  -- the same with another budget
  pub held_budget : (st : Standing) (p : Pair) (g : Goal) (rest : List Goal) (k : ℕ) → Held th G blocks st p g rest → Held th G blocks (record st { budget = k }) p g rest
  held_budget st p g rest k h = record {
    ran = ran_same th G blocks st (original p g ∷ rest) st.queue st.chain k h.ran;
    left = h.left;
    right = h.right;
    links = h.links;
    nests = h.nests;
    fine = h.fine;
    fine_rest = h.fine_rest;
  }

  -- ---- a Reduce step

  pub reduced_good : (st : Standing) (o : Goal) (rest : List Goal) (why : WhyOf Tree) (y : Standing) → Ran th G blocks st (o ∷ rest)
      → FineGoals th (bound st) rest → Justified (around st.hypotheses o.conds) (sides o) why → FitsIn 8 why → FineTerms th most (why_terms why)
      → goal_reduced th l.limits st rest why ≡ Ok y → Good y
  reduced_good st o rest why y h fr j fits terms e =
      let x : Through (step_recorded th l.limits st (Reduce why)) (λ z. Ok (next_goal z.hypotheses rest z)) y = through _ _ y e in
      let a : Standing = after_step th st (Reduce why) in
      let it : after_step th st (Reduce why) ≡ x.value = recorded th l.limits st (Reduce why) x.value x.first in
      let room = recorded_room th l.limits st (Reduce why) x.value x.first in
      let Q : Standing → Type 0 = λ z. Good (next_goal z.hypotheses rest z) in
      let few = h.few in
      let taken = h.taken in
      let ran : Ran th G blocks (next_goal a.hypotheses rest a) rest
      = ran_more th G blocks st (o ∷ rest) (Reduce why) st.hypotheses rest rest no_links (st.taken + 1) st.budget st.derives h (j, refl) fits terms room
      h.begins h.fine (omega (arith, few)) (omega (arith, taken)) in
      subst Good (same_Ok (next_goal x.value.hypotheses rest x.value) y x.last)
      (subst Q it (fresh_queue th G blocks (next_goal a.hypotheses rest a) rest refl ran fr))

  -- ---- Derive

  begins_more : (H E : List Goal) (g : Goal) → BeginsWith H E → BeginsWith (H ++ g ∷ []) E
  begins_more H E g b n h e = slice_get-front H (g ∷ []) n h (b n h e)

  derived_good : (st : Standing) (g : Goal) (rest : List Goal) (y : Standing) → Ran th G blocks st (g ∷ rest) → FineGoal th (bound st) g
      → FineGoals th (bound st) rest → IsHidden th (sort_of g.left) → derive_turn th l.limits st g rest ≡ Ok y → Good y
  derived_good st g rest y h fg fr hidden e =
      let gs : List Goal = derivatives_on th g in
      let F : List Goal → Result Standing Ending
      = λ k. and_then (step_recorded th l.limits st Derive) (λ x. Ok (next_goal (x.hypotheses ++ g ∷ []) (rest ++ k) (record x { derives = x.derives + 1 }))) in
      let u : Through (or_end l.limits st (unless_past (goals_limit gs) gs)) F y
      = through _ _ y (if_false (nat_le step_limit st.made) (spent l.limits st) _ y e) in
      let within = unless_passed (goals_limit gs) gs u.value (if_ended l.limits st _ u.value u.first) in
      let x : Through (step_recorded th l.limits st Derive) (λ z. Ok (next_goal (z.hypotheses ++ g ∷ []) (rest ++ u.value) (record z { derives = z.derives + 1 }))) y
      = through _ _ y u.last in
      let a : Standing = after_step th st Derive in
      let it : after_step th st Derive ≡ x.value = recorded th l.limits st Derive x.value x.first in
      let room = recorded_room th l.limits st Derive x.value x.first in
      let few = h.few in
      let taken = h.taken in
      let d : IsFineDerived th (bound st) g = derivatives_fine th wf (bound st) (omega (arith, few, room)) g fg within.0 in
      let b : Standing = next_goal (a.hypotheses ++ g ∷ []) (rest ++ gs) (record a { derives = a.derives + 1 }) in
      let L : List Goal = st.hypotheses ++ g ∷ [] in
      let up : bound st + 8 ≡ bound b = omega arith in
      let fine : FineGoals th (bound b) L =
      all_append (FineGoal th (bound b)) st.hypotheses (g ∷ []) (goals_more th (bound st) (bound b) st.hypotheses (omega arith) h.fine)
      (goal_more th (bound st) (bound b) g (omega arith) fg, tt) in
      let ran : Ran th G blocks b (rest ++ gs)
      = ran_more th G blocks st (g ∷ rest) Derive L (rest ++ gs) (rest ++ gs) no_links (st.taken + 1) st.budget (st.derives + 1) h
      (hidden, d.derivable, refl) tt tt room (begins_more st.hypotheses st.earlier g h.begins) fine (omega (arith, few)) (omega (arith, taken)) in
      let N : ℕ → Type 0 = λ m. FineGoals th m gs in
      let queue : FineGoals th (bound b) (rest ++ gs)
      = all_append (FineGoal th (bound b)) rest gs (goals_more th (bound st) (bound b) rest (omega arith) fr) (subst N up d.goals) in
      let Q : Standing → Type 0 = λ z. Good (next_goal (z.hypotheses ++ g ∷ []) (rest ++ u.value) (record z { derives = z.derives + 1 })) in
      let K : List Goal → Type 0 = λ k. Good (next_goal (a.hypotheses ++ g ∷ []) (rest ++ k) (record a { derives = a.derives + 1 })) in
      subst Good (same_Ok (next_goal (x.value.hypotheses ++ g ∷ []) (rest ++ u.value) (record x.value { derives = x.value.derives + 1 })) y x.last)
      (subst Q it (subst K within.1 (fresh_queue th G blocks b (rest ++ gs) refl ran queue)))

  -- ---- a Simplify step, where the chain has a link

  no_links_same : (H : List Goal) (c : ChainOf Tree) (p : Pair) (g : Goal) → has_links c ≡ false → Runs (Leads (around H g.conds)) c.left p.left g.left
      → Runs (Leads (around H g.conds)) c.right p.right g.right → original p g ≡ g
  no_links_same H c p g e a b = go c.left c.right e a b
    where
      both : p.left ≡ g.left → p.right ≡ g.right → original p g ≡ g
      both x y = ap (λ z. goal g.conds z p.right) x ∙ ap (goal g.conds g.left) y

      go : (ls rs : List (LinkOf Tree)) → not (is_nil (ls ++ rs)) ≡ false → Runs (Leads (around H g.conds)) ls p.left g.left
          → Runs (Leads (around H g.conds)) rs p.right g.right → original p g ≡ g
      go [] [] z x y = both x y
      go [] (r ∷ rs) z x y = absurd (cc)
      go (k ∷ ls) rs z x y = absurd (cc)

  -- the run leaves the goal as it stands, and little else has changed
  record Simplified (st y : Standing) (g : Goal) (rest : List Goal) : Type 0 where
    ran : Ran th G blocks y (g ∷ rest)
    derives : y.derives ≡ st.derives

  simplified_ran : (st : Standing) (p : Pair) (g : Goal) (rest : List Goal) (y : Standing) → Held th G blocks st p g rest → goal_simplified th l.limits st ≡ Ok y
      → Simplified st y g rest
  simplified_ran st p g rest y h e = go (has_links st.chain) refl e
    where
      x : ProofStep Tree
      x = Simplify st.chain

      go : (b : Bool) → has_links st.chain ≡ b → (if b then step_recorded th l.limits st x else Ok st) ≡ Ok y → Simplified st y g rest
      go true k z =
          let room = recorded_room th l.limits st x y z in
          let few = h.ran.few in
          let taken = h.ran.taken in
          let P : Standing → Type 0 = λ s. Simplified st s g rest in
          subst P (recorded th l.limits st x y z) (record {
            ran = ran_more th G blocks st (original p g ∷ rest) x st.hypotheses (g ∷ rest) st.queue st.chain st.taken st.budget st.derives h.ran
                (sides g, record { left = h.left; right = h.right }, refl) h.nests (chain_fine th most st.chain h.links) room h.ran.begins h.ran.fine
                (omega (arith, few)) (omega (arith, taken));
            derives = refl;
          })
      go false k z =
          let P : Standing → Type 0 = λ s. Simplified st s g rest in
          let Q : Goal → Type 0 = λ q. Ran th G blocks st (q ∷ rest) in
          subst P (same_Ok st y z) (record { ran = subst Q (no_links_same st.hypotheses st.chain p g k h.left h.right) h.ran; derives = refl })

  -- ---- Cases

  -- a constant in place of an open term
  case_fine : (m : ℕ) (u : Tree) → Fine th m u → (ks : List ℕ) → cases_of th (sort_of u) ≡ Some ks → (k : ℕ) → Contains ks k → FineCond th m (case_of u k)
  case_fine m u f ks listed k i =
      let c = cases_listed th (sort_of u) ks listed in
      record {
        left = f;
        right = record { sorted = constant_sorted th wf (case_list (sort_of u) ks) c k i; within = refl; low = omega arith };
        same_sort = refl;
        visible = (wf.cases (case_list (sort_of u) ks) c).visible;
      }

  goal_in_case : (m : ℕ) (g : Goal) (p : Pair) → FineGoal th m g → length g.conds < condition_limit → FineCond th m p → FineGoal th m (with_cond g p)
  goal_in_case m g p f few c =
      let long = length-append g.conds (p ∷ []) in
      record { left = f.left; right = f.right; same_sort = f.same_sort; conds = all_push (FineCond th m) g.conds p f.conds c; few = omega (arith, few, long) }

  each_case_fine : (m : ℕ) (g : Goal) (u : Tree) → FineGoal th m g → length g.conds < condition_limit → (ks : List ℕ)
      → ((k : ℕ) → Contains ks k → FineCond th m (case_of u k)) → FineGoals th m (map (λ k. with_cond g (case_of u k)) ks)
  each_case_fine m g u f few [] c = tt
  each_case_fine m g u f few (k ∷ ks) c =
      (goal_in_case m g (case_of u k) f few (c k (contains_first k ks)), each_case_fine m g u f few ks (λ j i. c j (contains_next k j ks i)))

  cases_good : (st : Standing) (p : Pair) (g : Goal) (rest : List Goal) (u : Tree) (y : Standing) → Held th G blocks st p g rest → Fine th (bound st) u
      → is_open th u ≡ true → length g.conds < condition_limit → cases_turn th l.limits st g rest u ≡ Ok y → Good y
  cases_good st p g rest u y h fu is_o few e =
      let cs = constants_of th (sort_of u) in
      let gs : List Goal = map (λ c. with_cond g (case_of u c)) cs in
      let x : Through (goal_simplified th l.limits st) (λ z. and_then (step_recorded th l.limits z (Cases u)) (λ w. Ok (next_goal w.hypotheses (gs ++ rest) w))) y = through _ _ y e in
      let s = simplified_ran st p g rest x.value h x.first in
      let v : Through (step_recorded th l.limits x.value (Cases u)) (λ w. Ok (next_goal w.hypotheses (gs ++ rest) w)) y = through _ _ y x.last in
      let a : Standing = after_step th x.value (Cases u) in
      let it : a ≡ v.value = recorded th l.limits x.value (Cases u) v.value v.first in
      let room = recorded_room th l.limits x.value (Cases u) v.value v.first in
      let count = s.ran.few in
      let taken = s.ran.taken in
      let has = open_has_cases th u is_o in
      let is : cs ≡ has.0 = ap (λ o. option_map_or (λ cs. cs) o []) has.1 in
      let same : bound st ≡ bound x.value = ap (λ d. half + 8 * d) (sym s.derives) in
      let F : ℕ → Type 0 = λ m. Fine th m u in
      let D : ℕ → Type 0 = λ m. FineGoal th m g in
      let R : ℕ → Type 0 = λ m. FineGoals th m rest in
      let small = bound_small x.value (g ∷ rest) s.ran in
      let cases : FineGoals th (bound x.value) gs =
      subst (λ ks. FineGoals th (bound x.value) (map (λ c. with_cond g (case_of u c)) ks)) (sym is)
      (each_case_fine (bound x.value) g u (subst D same h.fine) few has.0 (case_fine (bound x.value) u (subst F same fu) has.0 has.1)) in
      let made : cases_on g u (case_list (sort_of u) has.0) ≡ gs = ap (map (λ c. with_cond g (case_of u c))) (sym is) in
      let ran : Ran th G blocks (next_goal a.hypotheses (gs ++ rest) a) (gs ++ rest)
      = ran_more th G blocks x.value (g ∷ rest) (Cases u) x.value.hypotheses (gs ++ rest) (gs ++ rest) no_links (x.value.taken + 1) x.value.budget x.value.derives s.ran
      (has.0, has.1, few, ap (λ k. state x.value.hypotheses (k ++ rest)) (sym made)) tt
      (fine_more th (bound x.value) most u small (subst F same fu), tt) room s.ran.begins s.ran.fine (omega (arith, count)) (omega (arith, taken)) in
      let Q : Standing → Type 0 = λ z. Good (next_goal z.hypotheses (gs ++ rest) z) in
      subst Good (same_Ok (next_goal v.value.hypotheses (gs ++ rest) v.value) y v.last)
      (subst Q it (fresh_queue th G blocks (next_goal a.hypotheses (gs ++ rest) a) (gs ++ rest) refl ran
      (all_append (FineGoal th (bound x.value)) gs rest cases (subst R same h.fine_rest))))

  -- ---- a hidden goal, a visible one

  derives_good : (st : Standing) (p : Pair) (g : Goal) (rest : List Goal) (y : Standing) → Held th G blocks st p g rest → is_hidden th (sort_of g.left) ≡ true
      → derives_turn th l.limits st g rest ≡ Ok y → Good y
  derives_good st p g rest y h hidden e =
      let x : Through (goal_simplified th l.limits st) (λ z. derive_turn th l.limits z g rest) y
      = through _ _ y (if_false (nat_le l.limits.derives st.derives) (spent l.limits st) _ y e) in
      let s = simplified_ran st p g rest x.value h x.first in
      let P : ℕ → Type 0 = λ d. FineGoal th (half + 8 * d) g in
      let Q : ℕ → Type 0 = λ d. FineGoals th (half + 8 * d) rest in
      derived_good x.value g rest y s.ran (subst P (sym s.derives) h.fine) (subst Q (sym s.derives) h.fine_rest)
      ((hidden_tells th (sort_of g.left)).0 hidden) x.last

  less_than : (m n : ℕ) → nat_lt m n ≡ true → m < n
  less_than m n e = grind arith

  hidden_good : (st : Standing) (p : Pair) (g : Goal) (rest : List Goal) (y : Standing) → Held th G blocks st p g rest → is_hidden th (sort_of g.left) ≡ true
      → hidden_turn_trying th l st g rest ≡ Ok y → Good y
  hidden_good st p g rest y h hidden e = go (case_term th l.split g) refl e
    where
      found : (b : Bool) (u : Tree) → (l.split && nat_lt (length g.conds) condition_limit) ≡ b → (if b then first_open_of th g.left g.right else None) ≡ Some u
          → (nat_lt (length g.conds) condition_limit ≡ true) × IsFineOpen th (bound st) u
      found false u k z = absurd (cc)
      found true u k z = (
        (and_parts l.split (nat_lt (length g.conds) condition_limit) k).1,
        either_open th (bound st) (first_open th g.left) (first_open th g.right) u (λ x. first_open_is th (bound st) g.left u h.fine.left x)
            (λ x. first_open_is th (bound st) g.right u h.fine.right x) z,
      )

      go : (o : Option Tree) → case_term th l.split g ≡ o → option_map_or (cases_turn th l.limits st g rest) o (derives_turn th l.limits st g rest) ≡ Ok y → Good y
      go None k z = derives_good st p g rest y h hidden z
      go (Some u) k z =
          let f = found (l.split && nat_lt (length g.conds) condition_limit) u refl k in
          cases_good st p g rest u y h f.1.fine f.1.is (less_than (length g.conds) condition_limit f.0) z

  eight : (i : ℕ) (c : ChainOf Tree) (u : Tree) (ws : WhysOf Tree) → split_limit ≡ suc i → ChainNests c → AllFitIn i ws → FitsIn 8 (Split_why c u ws)
  eight i c u ws e d f =
      let z : i ≡ 7 = omega (arith, e) in
      let P : ℕ → Type 0 = λ j. AllFitIn j ws in
      (d, subst P z f)

  visible_good : (st : Standing) (p : Pair) (g : Goal) (rest : List Goal) (y : Standing) → Held th G blocks st p g rest → visible_turn_trying th l.limits st g rest ≡ Ok y → Good y
  visible_good st p g rest y h e =
      let R = block_rules th st.earlier in
      let x : Through (or_end l.limits st (split_cases_trying th R split_limit g.conds g.left g.right st.budget))
      (λ c. goal_reduced th l.limits (record st { budget = c.budget }) rest (Split_why st.chain c.term c.whys)) y = through _ _ y e in
      let split = split_is th wf (bound st) (omega arith) G st.hypotheses R (rules_here st (original p g ∷ rest) h.ran) split_limit g.conds
      (assumptions_of (bound st) g.conds h.fine.conds) g.left g.right st.budget
      x.value h.fine.left h.fine.right (if_ended l.limits st _ x.value x.first) in
      let s = split.2 in
      let small = bound_small st (original p g ∷ rest) h.ran in
      let why : WhyOf Tree = Split_why st.chain x.value.term x.value.whys in
      let ran = ran_same th G blocks st (original p g ∷ rest) st.queue st.chain x.value.budget h.ran in
      reduced_good (record st { budget = x.value.budget }) (original p g) rest why y ran h.fine_rest (
        sides g,
        record { left = h.left; right = h.right },
        case_list (sort_of x.value.term) s.constants,
        cases_listed th (sort_of x.value.term) s.constants s.listed,
        refl,
        s.each,
      )
      (eight split.0 st.chain x.value.term x.value.whys split.1 h.nests s.fits)
      (all_append (Fine th most) (chain_terms st.chain) (x.value.term ∷ whys_terms x.value.whys) (chain_fine th most st.chain h.links)
      (fine_more th (bound st) most x.value.term small s.term, whys_fine th (bound st) most small x.value.whys s.terms)) x.last

  pub open_good : (st : Standing) (p : Pair) (g : Goal) (rest : List Goal) (y : Standing) → Held th G blocks st p g rest → open_turn_trying th l st g rest ≡ Ok y → Good y
  open_good st p g rest y h e = go (is_hidden th (sort_of g.left)) refl e
    where
      go : (v : Bool) → is_hidden th (sort_of g.left) ≡ v → (if v then hidden_turn_trying th l st g rest else visible_turn_trying th l.limits st g rest) ≡ Ok y → Good y
      go true k z = hidden_good st p g rest y h k z
      go false k z = visible_good st p g rest y h z

  -- ---- a lemma pass

  -- what a pass over both sides does
  pub record SweptSides (st : Standing) (g : Goal) (w : Swept × Swept) : Type 0 where
    pub left : Led (around st.hypotheses g.conds) (bound st) (map use_link w.0.uses) g.left w.0.whole
    pub right : Led (around st.hypotheses g.conds) (bound st) (map use_link w.1.uses) g.right w.1.whole

  pub swept_sides_led : (st : Standing) (p : Pair) (g : Goal) (rest : List Goal) (w : Swept × Swept) (k l' : ℕ) → Held th G blocks st p g rest
      → swept_sides_trying th G st.earlier g k ≡ Made w l' → SweptSides st g w
  swept_sides_led st p g rest w k l' h e =
      let E : List Goal = st.earlier in
      let f : Normaliser = condition_normaliser th E g.conds in
      let L = hidden_lemmas th 0 E in
      let c : Setting = around st.hypotheses g.conds in
      let links = cond_links st (original p g ∷ rest) h.ran g.conds h.fine.conds in
      let fining = cond_fine st (original p g ∷ rest) h.ran g.conds h.fine.conds in
      let nest : IsNesting 7 f = norm_nests (try_limit - 1) th.signature (block_rules th E) g.conds in
      let lemmas = hidden_lemmas_are th st.hypotheses E h.ran.begins in
      let a = then_made (swept_trying f G L [] g.left (swept_with g.left []) k) (λ a m. work_then (swept_trying f G L [] g.right (swept_with g.right []) m) (λ b n. Made (a, b) n)) w l' e in
      let b = then_made (swept_trying f G L [] g.right (swept_with g.right []) a.1) (λ b n. Made (a.0, b) n) w l' a.3 in
      let s = swept_leads c (bound st) h.ran.fine f links fining nest L lemmas g.left [] (swept_with g.left []) a.0 k a.1 h.fine.left h.fine.left refl tt a.2 in
      let t = swept_leads c (bound st) h.ran.fine f links fining nest L lemmas g.right [] (swept_with g.right []) b.0 a.1 b.1 h.fine.right h.fine.right refl tt b.2 in
      let P : List HypothesisUse → Type 0 = λ us. Led c (bound st) (map use_link us) g.left a.0.whole in
      let Q : List HypothesisUse → Type 0 = λ us. Led c (bound st) (map use_link us) g.right b.0.whole in
      subst (SweptSides st g) (same_pair (a.0, b.0) w b.1 l' b.3) (record { left = subst P (sym s.uses) s.lead.led; right = subst Q (sym t.uses) t.lead.led })
    where
      then_made : {A B : Type 0} (w : Work A) (f : A → ℕ → Work B) (v : B) (l : ℕ) → work_then w f ≡ Made v l → (a : A) × (k : ℕ) × (w ≡ Made a k) × (f a k ≡ Made v l)
      then_made (Made a k) f v l e = (a, k, refl, e)
      then_made Out f v l e = absurd (cc)
      then_made (Past x k) f v l e = absurd (cc)

      same_pair : (a b : Swept × Swept) (i j : ℕ) → Made a i ≡ Made b j → a ≡ b
      same_pair a b i j z = cc

  pass_good : (st : Standing) (p : Pair) (g : Goal) (rest : List Goal) (y : Standing) → Held th G blocks st p g rest → pass_turn_trying th G l st g rest ≡ Ok y → Good y
  pass_good st p g rest y h e =
      let r = worked_is l.limits st (swept_sides_trying th G st.earlier g st.budget)
      (λ w x. if has_links (pass_chain w) then Ok (with_sides_of x g rest (sides_with w.0.whole w.1.whole (pass_chain w) x.budget)) else open_turn_trying th l x g rest) y e in
      go r.0 r.1 (swept_sides_led st p g rest r.0 st.budget r.1 h r.2) (has_links (pass_chain r.0)) r.3
    where
      go : (w : Swept × Swept) (k : ℕ) → SweptSides st g w → (v : Bool)
          → (if v then Ok (with_sides_of (record st { budget = k }) g rest (sides_with w.0.whole w.1.whole (pass_chain w) k)) else open_turn_trying th l (record st { budget = k }) g rest) ≡ Ok y
          → Good y
      go w k s true z =
          let n : Sides = sides_with w.0.whole w.1.whole (pass_chain w) k in
          subst Good (same_Ok (with_sides_of (record st { budget = k }) g rest n) y z) (p, sides_held (record st { budget = k }) p g rest n (held_budget st p g rest k h) s.left s.right)
      go w k s false z = open_good (record st { budget = k }) p g rest y (held_budget st p g rest k h) z

  -- ---- Join

  join_good : (st : Standing) (p : Pair) (g : Goal) (rest : List Goal) (y : Standing) → Held th G blocks st p g rest → (us : Option (List HypothesisUse)) (k j : ℕ)
      → joined_trying (condition_normaliser th st.earlier g.conds) G st.hypotheses [] g.left g.right k ≡ Made us j → join_turn_trying th G l st g rest us ≡ Ok y → Good y
  join_good st p g rest y h None k j i e = pass_good st p g rest y h e
  join_good st p g rest y h (Some us) k j i e =
      let c : ChainOf Tree = chained st.chain (chain_with (map use_link us) []) in
      let x : Through (or_end l.limits st (put_all g.left us)) (λ u. goal_reduced th l.limits st rest (Same_why c)) y = through _ _ y e in
      let set : Setting = around st.hypotheses g.conds in
      let d = joined_leads set (bound st) h.ran.fine (condition_normaliser th st.earlier g.conds) (cond_links st (original p g ∷ rest) h.ran g.conds h.fine.conds)
      (cond_fine st (original p g ∷ rest) h.ran g.conds h.fine.conds) (norm_nests (try_limit - 1) th.signature (block_rules th st.earlier) g.conds) g.left g.right [] us g.left x.value k j h.fine.left h.fine.left h.fine.right refl tt i
      (if_ended l.limits st _ x.value x.first) in
      let equal : x.value ≡ g.right = same_Some x.value g.right (sym d.made) in
      let small = bound_small st (original p g ∷ rest) h.ran in
      let P : Tree → Type 0 = λ t. Runs (Leads set) c.right p.right t in
      let links : AllOfChain (Fine th most) c = (
        all_append _ st.chain.left (map use_link us) h.links.0 (links_more th (bound st) most (map use_link us) small d.led.terms),
        all_append _ st.chain.right [] h.links.1 tt,
      ) in
      reduced_good st (original p g) rest (Same_why c) y h.ran h.fine_rest (
        x.value,
        record {
          left = runs_append (Leads set) st.chain.left (map use_link us) p.left g.left x.value h.left d.led.leads;
          right = subst P (sym equal) (runs_append (Leads set) st.chain.right [] p.right g.right g.right h.right refl);
        },
      ) (all_append (NestsIn 8) st.chain.left (map use_link us) h.nests.0 d.led.nests, all_append (NestsIn 8) st.chain.right [] h.nests.1 tt)
      (chain_fine th most c links) x.last

  -- ---- one goal, and the end of a block

  goal_good : (st : Standing) (p : Pair) (g : Goal) (rest : List Goal) (y : Standing) → Held th G blocks st p g rest → goal_turn_trying th G l st g rest ≡ Ok y → Good y
  goal_good st p g rest y h e =
      let R = block_rules th st.earlier in
      let x : Through (or_end l.limits st (normal_sides_trying th R g.conds g.left g.right st.budget))
      (λ n. sides_turn_trying th G l (with_sides_of st g rest n) (goal g.conds n.left n.right) rest) y = through _ _ y e in
      let s = normal_sides_led th wf (bound st) (omega arith) G st.hypotheses R (rules_here st (original p g ∷ rest) h.ran) g.conds
      (assumptions_of (bound st) g.conds h.fine.conds) g.left g.right st.budget x.value h.fine.left h.fine.right (if_ended l.limits st _ x.value x.first) in
      let n : Sides = x.value in
      let st' : Standing = with_sides_of st g rest n in
      let g' : Goal = goal g.conds n.left n.right in
      let held = sides_held st p g rest n h s.left s.right in
      let r = worked_is l.limits st' (joined_trying (condition_normaliser th st'.earlier g'.conds) G st'.hypotheses [] g'.left g'.right st'.budget) (λ o z. join_turn_trying th G l z g' rest o) y x.last in
      join_good (record st' { budget = r.1 }) p g' rest y (held_budget st' p g' rest r.1 held) r.0 st'.budget r.1 r.2 r.3

  -- a block's Done has made it whole
  pub record IsWhole (st : Standing) (later : List (List Goal)) : Type 0 where
    pub whole : Whole th G blocks (with_this st) later st.deep st.made st.derives
    pub earlier : st.earlier ++ st.goals ≡ goals_of (with_this st)
    pub fine : FineGoals th (bound st) (st.earlier ++ st.goals)

  pub each_fine : (m : ℕ) (E : List Goal) → ((n : ℕ) (g : Goal) → slice_get E n ≡ Some g → FineGoal th m g) → FineGoals th m E
  each_fine m [] f = tt
  each_fine m (g ∷ gs) f = (f zero g refl, each_fine m gs (λ n h e. f (suc n) h e))

  pub done_is_whole : (st y : Standing) → Ran th G blocks st [] → step_recorded th l.limits st Done ≡ Ok y → IsWhole y y.later
  done_is_whole st y h e =
      let P : Standing → Type 0 = λ s. IsWhole s s.later in
      subst P (recorded th l.limits st Done y e) (record {
        whole = done_whole th G blocks st h (recorded_room th l.limits st Done y e);
        earlier = ap (λ x. x ++ st.goals) h.earlier ∙ sym (goals_of_more st.finished (proved_block st.goals (st.steps ++ Done ∷ [])));
        fine = all_append (FineGoal th (bound st)) st.earlier st.goals
            (each_fine (bound st) st.earlier (λ n g x. all_at (FineGoal th (bound st)) st.hypotheses n g h.fine (h.begins n g x)))
            (goals_more th half (bound st) st.goals (omega arith) h.goals);
      })

  pub next_good : (st : Standing) (later : List (List Goal)) (y : Standing) → IsWhole st later → next_block st later ≡ Ok y → Good y
  next_good st [] y w e = absurd (cc)
  next_good st (b ∷ bs) y w e =
      let h = w.whole in
      let n : Standing = begun (with_this st) (st.earlier ++ st.goals) b bs st.budget st.derives st.made st.deep in
      let count = h.counted in
      let ran : Ran th G blocks n b = record {
        finished = h.run;
        earlier = w.earlier;
        all = h.all;
        begins = λ i g x. x;
        fine = w.fine;
        run = record { under = refl; plain = λ x. refl };
        unfinished = tt;
        ended = h.ended;
        counted = omega (arith, count);
        small = h.small;
        few = h.few;
        taken = omega arith;
        finished_terms = h.terms;
        goals = h.later_goals.0;
        later = h.later_goals.1;
        terms = tt;
      } in
      subst Good (same_Ok n y e) (fresh_queue th G blocks n b refl ran
      (goals_more th half (bound n) b (omega arith) h.later_goals.0))

  pub turn_good : (st y : Standing) → Good st → turn_trying th G l st ≡ Ok y → Good y
  turn_good st y h e = go st.queue h e
    where
      go : (Q : List Goal) → Opened th G blocks st Q → turn_trying_at th G l st Q ≡ Ok y → Good y
      go [] o z =
          let x : Through (step_recorded th l.limits st Done) (λ s. next_block s s.later) y = through _ _ y z in
          next_good x.value x.value.later y (done_is_whole st x.value o x.first) x.last
      go (g ∷ rest) o z = goal_good st o.0 g rest y o.1 z
