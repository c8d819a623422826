-- The search ends with every goal done only behind the last block's Done, and each block is whole then.
use Rattle.circ_plain_search.proofs.Ends.{same_Err}
use Rattle.circ_plain_search.proofs.Runs.{half}
use Rattle.std.proofs.Common.{◌≡◌, ℕ, ◌+◌, ◌*◌, Bool, true, false, if◌then◌else◌, List, [], ◌∷◌, ◌++◌, map, Option, Some, None, Result, Ok, Err, refl, ap, subst, ◌∙◌, arith}
use Rattle.std.specs.Prelude.{nat_le}
use Rattle.std.specs.List.{AllByRecursion}
use Rattle.circ_term.specs.Tree.{Tree, sort_of}
use Rattle.circ_term.specs.Limits.{Limit, Big, Deep}
use Rattle.circ_theory.specs.Theory.{Theory, goal}
use Rattle.circ_theory.specs.WellFormed.{IsWellFormed}
use Rattle.circ_theory.specs.Observing.{is_hidden}
use Rattle.circ_theory.specs.Goal.{Goal}
use Rattle.circ_proof.specs.Goals.{with_cond}
use Rattle.circ_special.specs.declared.place.Place.{Place}
use Rattle.circ_proof.specs.Plain.{WhyOf, Same_why, Split_why}
use Rattle.circ_proof.specs.Rules.{ProofStep, Simplify, Reduce, Derive, Done, derivatives_on, Cases}
use Rattle.circ_proof.specs.Proof.{step_limit, split_limit}
use Rattle.circ_plain_search.specs.BlockRules.{block_rules}
use Rattle.circ_plain_search.specs.Joining.{Stop, No_budget, Past_limit, Not_split, HypothesisUse, use_link, put_all, and_then}
use Rattle.circ_conditional_search.specs.Joining.{joined_trying, Swept}
use Rattle.circ_plain_search.specs.Search.{Limits, ProvedBlock, Standing, Ending, All_done, chain_with, chained, spent, past, or_end, has_links, next_goal, goals_limit, unless_past, derive_turn, with_this, next_block, start, case_of, constants_of, sides_with}
use Rattle.circ_conditional_search.specs.Search.{Manner, normal_sides_trying, split_cases_trying, step_recorded, with_sides_of, goal_reduced, hidden_turn_trying, visible_turn_trying, open_turn_trying, swept_sides_trying, join_turn_trying, sides_turn_trying, goal_turn_trying, turn_trying_at, turn_trying, Finishes, stops, goes_on, goal_simplified, derives_turn, cases_turn, case_term, worked, pass_turn_trying, pass_chain, condition_normaliser}
use Rattle.circ_conditional_search.proofs.Derived.{FineGoals}
use Rattle.circ_conditional_search.proofs.Runs.{after_step, Opened, fresh_queue, Whole}
use Rattle.circ_conditional_search.proofs.Turns.{IsWhole, done_is_whole, turn_good}
use Rattle.circ_conditional_norm.specs.Work.{Work, Made, Out, Past}
use Rattle.std.specs.Option.{option_map_or}

-- the part of a turn does not end the search with every goal done
abbrev pub NotDone : {A : Type 0} → Result A Ending → Type 0
NotDone r = (bs : List ProvedBlock) (d m : ℕ) (x : Bool) → r ≡ Err (All_done bs d m x) → ⊥

pub not_then : {A B : Type 0} (r : Result A Ending) (f : A → Result B Ending) → NotDone r → ((a : A) → NotDone (f a)) → NotDone (and_then r f)
not_then (Ok a) f n k bs d m x e = k a bs d m x e
not_then (Err z) f n k bs d m x e = n bs d m x (let s : z ≡ All_done bs d m x = same_Err z (All_done bs d m x) e in ap Err s)

pub not_past : {A : Type 0} (l : Limit) → NotDone {A = A} (Err (past l))
not_past (Big n) bs d m x e = absurd (cc)
not_past (Deep n) bs d m x e = absurd (cc)

pub not_ended : {A : Type 0} (l : Limits) (st : Standing) (r : Result A Stop) → NotDone (or_end l st r)
not_ended l st (Ok a) bs d m x e = absurd (cc)
not_ended l st (Err No_budget) bs d m x e = absurd (cc)
not_ended {A = A} l st (Err (Past_limit y)) bs d m x e = not_past {A = A} y bs d m x e
not_ended l st (Err (Not_split s t A)) bs d m x e = absurd (cc)

pub not_spent : {A : Type 0} (b : Bool) (l : Limits) (st : Standing) (r : Result A Ending) → NotDone r → NotDone (if b then Err (spent l st) else r)
not_spent true l st r n bs d m x e = absurd (cc)
not_spent false l st r n bs d m x e = n bs d m x e

pub not_ok : {A : Type 0} (a : A) → NotDone (Ok a)
not_ok a bs d m x e = absurd (cc)

module _ (th : Theory) (G : List Place) (l : Manner) where
  pub not_recorded : (st : Standing) (y : ProofStep Tree) → NotDone (step_recorded th l.limits st y)
  not_recorded st y = not_spent (nat_le step_limit st.made) l.limits st (Ok (after_step th st y)) (not_ok (after_step th st y))

  pub not_reduced : (st : Standing) (rest : List Goal) (why : WhyOf Tree) → NotDone (goal_reduced th l.limits st rest why)
  not_reduced st rest why = not_then _ (λ x. Ok (next_goal x.hypotheses rest x)) (not_recorded st (Reduce why)) (λ x. not_ok (next_goal x.hypotheses rest x))

  not_derived : (st : Standing) (g : Goal) (rest : List Goal) → NotDone (derive_turn th l.limits st g rest)
  not_derived st g rest =
      not_spent (nat_le step_limit st.made) l.limits st _
      (not_then _ (λ gs. and_then (step_recorded th l.limits st Derive)
      (λ x. Ok (next_goal (x.hypotheses ++ g ∷ []) (rest ++ gs) (record x { derives = x.derives + 1 }))))
      (not_ended l.limits st (unless_past (goals_limit (derivatives_on th g)) (derivatives_on th g)))
      (λ gs. not_then _ (λ x. Ok (next_goal (x.hypotheses ++ g ∷ []) (rest ++ gs) (record x { derives = x.derives + 1 })))
      (not_recorded st Derive) (λ x. not_ok _)))

  not_simple : (st : Standing) → NotDone (goal_simplified th l.limits st)
  not_simple st = go (has_links st.chain)
    where
      go : (b : Bool) → NotDone (if b then step_recorded th l.limits st (Simplify st.chain) else Ok st)
      go true = not_recorded st (Simplify st.chain)
      go false = not_ok st

  not_derives : (st : Standing) (g : Goal) (rest : List Goal) → NotDone (derives_turn th l.limits st g rest)
  not_derives st g rest =
      not_spent (nat_le l.limits.derives st.derives) l.limits st _ (not_then _ (λ x. derive_turn th l.limits x g rest) (not_simple st) (λ x. not_derived x g rest))

  not_cases : (st : Standing) (g : Goal) (rest : List Goal) (u : Tree) → NotDone (cases_turn th l.limits st g rest u)
  not_cases st g rest u =
      not_then _ (λ x. and_then (step_recorded th l.limits x (Cases u))
      (λ y. Ok (next_goal y.hypotheses (map (λ c. with_cond g (case_of u c)) (constants_of th (sort_of u)) ++ rest) y)))
      (not_simple st)
      (λ x. not_then _ (λ y. Ok (next_goal y.hypotheses (map (λ c. with_cond g (case_of u c)) (constants_of th (sort_of u)) ++ rest) y))
      (not_recorded x (Cases u)) (λ y. not_ok _))

  pub not_open : (st : Standing) (g : Goal) (rest : List Goal) → NotDone (open_turn_trying th l st g rest)
  not_open st g rest = go (is_hidden th (sort_of g.left))
    where
      hidden : (o : Option Tree) → NotDone (option_map_or (cases_turn th l.limits st g rest) o (derives_turn th l.limits st g rest))
      hidden None = not_derives st g rest
      hidden (Some u) = not_cases st g rest u

      go : (b : Bool) → NotDone (if b then hidden_turn_trying th l st g rest else visible_turn_trying th l.limits st g rest)
      go true = hidden (case_term th l.split g)
      go false =
          not_then _ (λ c. goal_reduced th l.limits (record st { budget = c.budget }) rest (Split_why st.chain c.term c.whys))
          (not_ended l.limits st (split_cases_trying th (block_rules th st.earlier) split_limit g.conds g.left g.right st.budget))
          (λ c. not_reduced (record st { budget = c.budget }) rest (Split_why st.chain c.term c.whys))

  pub not_worked : {A B : Type 0} (st : Standing) (w : Work A) (f : A → Standing → Result B Ending) → ((a : A) (x : Standing) → NotDone (f a x)) → NotDone (worked l.limits st w f)
  not_worked st (Made a k) f n bs d m x e = n a (record st { budget = k }) bs d m x e
  not_worked st Out f n bs d m x e = absurd (cc)
  not_worked {A = A} {B = B} st (Past y k) f n bs d m x e = not_past {A = B} y bs d m x e

  not_pass : (st : Standing) (g : Goal) (rest : List Goal) → NotDone (pass_turn_trying th G l st g rest)
  not_pass st g rest =
      not_worked st (swept_sides_trying th G st.earlier g st.budget)
      (λ w x. if has_links (pass_chain w) then Ok (with_sides_of x g rest (sides_with w.0.whole w.1.whole (pass_chain w) x.budget)) else open_turn_trying th l x g rest)
      (λ w x. go w x (has_links (pass_chain w)))
    where
      go : (w : Swept × Swept) (x : Standing) (b : Bool)
          → NotDone (if b then Ok (with_sides_of x g rest (sides_with w.0.whole w.1.whole (pass_chain w) x.budget)) else open_turn_trying th l x g rest)
      go w x true = not_ok (with_sides_of x g rest (sides_with w.0.whole w.1.whole (pass_chain w) x.budget))
      go w x false = not_open x g rest

  not_joined : (st : Standing) (g : Goal) (rest : List Goal) (o : Option (List HypothesisUse)) → NotDone (join_turn_trying th G l st g rest o)
  not_joined st g rest (Some us) =
      not_then _ (λ u. goal_reduced th l.limits st rest (Same_why (chained st.chain (chain_with (map use_link us) [])))) (not_ended l.limits st (put_all g.left us))
      (λ u. not_reduced st rest (Same_why (chained st.chain (chain_with (map use_link us) []))))
  not_joined st g rest None = not_pass st g rest

  not_goal : (st : Standing) (g : Goal) (rest : List Goal) → NotDone (goal_turn_trying th G l st g rest)
  not_goal st g rest =
      not_then _ (λ n. sides_turn_trying th G l (with_sides_of st g rest n) (goal g.conds n.left n.right) rest)
      (not_ended l.limits st (normal_sides_trying th (block_rules th st.earlier) g.conds g.left g.right st.budget))
      (λ n. not_worked (with_sides_of st g rest n)
      (joined_trying (condition_normaliser th st.earlier g.conds) G st.hypotheses [] n.left n.right n.budget)
      (λ o x. join_turn_trying th G l x (goal g.conds n.left n.right) rest o) (λ o x. not_joined x (goal g.conds n.left n.right) rest o))

module _ (th : Theory) (wf : IsWellFormed th) (G : List Place) (l : Manner) (blocks : List (List Goal)) where
  pub last_whole : (st : Standing) (later : List (List Goal)) (bs : List ProvedBlock) (d m : ℕ) (x : Bool) → IsWhole th wf G l blocks st later
      → next_block st later ≡ Err (All_done bs d m x) → Whole th G blocks bs [] x m d
  last_whole st (b ∷ later) bs d m x h e = absurd (cc)
  last_whole st [] bs d m x h e =
      let it : All_done (with_this st) st.derives st.made st.deep ≡ All_done bs d m x = same_Err _ (All_done bs d m x) e in
      let a : with_this st ≡ bs = cc in
      let b : st.deep ≡ x = cc in
      let c : st.made ≡ m = cc in
      let f : st.derives ≡ d = cc in
      let P : List ProvedBlock → Type 0 = λ z. Whole th G blocks z [] x m d in
      let Q : Bool → Type 0 = λ z. Whole th G blocks (with_this st) [] z m d in
      let R : ℕ → Type 0 = λ z. Whole th G blocks (with_this st) [] st.deep z d in
      let S : ℕ → Type 0 = λ z. Whole th G blocks (with_this st) [] st.deep st.made z in
      subst P a (subst Q b (subst R c (subst S f h.whole)))

  pub turn_whole : (st : Standing) (bs : List ProvedBlock) (d m : ℕ) (x : Bool) → Opened th G blocks st st.queue
      → turn_trying th G l st ≡ Err (All_done bs d m x) → Whole th G blocks bs [] x m d
  turn_whole st bs d m x h e = go st.queue h e
    where
      last : (r : Result Standing Ending) → Opened th G blocks st [] → step_recorded th l.limits st Done ≡ r
          → and_then r (λ z. next_block z z.later) ≡ Err (All_done bs d m x) → Whole th G blocks bs [] x m d
      last (Ok y) o f z = last_whole y y.later bs d m x (done_is_whole th wf G l blocks st y o f) z
      last (Err y) o f z =
          absurd (not_recorded th G l st Done bs d m x (f ∙ (let s : y ≡ All_done bs d m x = same_Err y (All_done bs d m x) z in ap Err s)))

      go : (Q : List Goal) → Opened th G blocks st Q → turn_trying_at th G l st Q ≡ Err (All_done bs d m x) → Whole th G blocks bs [] x m d
      go [] o z = last (step_recorded th l.limits st Done) o refl z
      go (g ∷ rest) o z = absurd (not_goal th G l st g rest bs d m x z)

  pub reaches_whole : (st : Standing) (e : Ending) → Opened th G blocks st st.queue → Finishes th G l st e → (bs : List ProvedBlock) (d m : ℕ) (x : Bool)
      → e ≡ All_done bs d m x → Whole th G blocks bs [] x m d
  reaches_whole st e h (stops _ _ t) bs d m x it = turn_whole st bs d m x h (t ∙ ap Err it)
  reaches_whole st e h (goes_on _ y _ t r) bs d m x it = reaches_whole y e (turn_good th wf G l blocks st y h t) r bs d m x it

pub start_opened : (th : Theory) (G : List Place) (l : Limits) (b : List Goal) (bs : List (List Goal)) → FineGoals th half b
    → AllByRecursion (FineGoals th half) bs → Opened th G (b ∷ bs) (start l (b ∷ bs)) b
start_opened th G l b bs fb fbs =
    let n : Standing = start l (b ∷ bs) in
    fresh_queue th G (b ∷ bs) n b refl (record {
      finished = record { under = tt; plain = λ e. tt };
      earlier = refl;
      all = refl;
      begins = λ n h e. e;
      fine = tt;
      run = record { under = refl; plain = λ e. refl };
      unfinished = tt;
      ended = tt;
      counted = refl;
      small = omega arith;
      few = omega arith;
      taken = omega arith;
      finished_terms = tt;
      goals = fb;
      later = fbs;
      terms = tt;
    }) (let e : half ≡ half + 8 * 0 = omega arith in let P : ℕ → Type 0 = λ m. FineGoals th m b in subst P e fb)

-- A search that stops with every goal done has proved each of the given blocks.
pub search_whole : (th : Theory) → IsWellFormed th → (G : List Place) (l : Manner) (b : List Goal) (bs : List (List Goal)) → FineGoals th half b
    → AllByRecursion (FineGoals th half) bs → (found : List ProvedBlock) (d m : ℕ) (x : Bool) → Finishes th G l (start l.limits (b ∷ bs)) (All_done found d m x)
    → Whole th G (b ∷ bs) found [] x m d
search_whole th wf G l b bs fb fbs found d m x r =
    reaches_whole th wf G l (b ∷ bs) (start l.limits (b ∷ bs)) (All_done found d m x) (start_opened th G l.limits b bs fb fbs) r found d m x refl
