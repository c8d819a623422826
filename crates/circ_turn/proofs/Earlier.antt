-- A turn on a goal leaves the goals of earlier blocks, and the end of a block puts its own behind them.
use Rattle.std.proofs.Common.{◌≡◌, ℕ, ◌+◌, ◌<◌, Bool, true, false, ◌||◌, if◌then◌else◌, List, [], ◌∷◌, ◌++◌, map, length, Option, Some, None, Result, Ok, Err, refl, ap, sym, ◌∙◌, arith}
use Rattle.std.specs.Prelude.{nat_le}
use Rattle.std.specs.Option.{option_map_or}
use Rattle.circ_term.specs.Tree.{Tree, sort_of}
use Rattle.circ_theory.specs.Theory.{Theory, goal}
use Rattle.circ_theory.specs.Observing.{is_hidden}
use Rattle.circ_theory.specs.Goal.{Goal}
use Rattle.circ_special.specs.declared.place.Place.{Place}
use Rattle.circ_proof.specs.Goals.{with_cond}
use Rattle.circ_proof.specs.Plain.{WhyOf, Same_why, Split_why}
use Rattle.circ_proof.specs.Rules.{ProofStep, Simplify, Reduce, Derive, Cases, Done, derivatives_on}
use Rattle.circ_proof.specs.Proof.{step_limit, split_limit}
use Rattle.circ_plain_search.specs.BlockRules.{block_rules}
use Rattle.circ_plain_search.specs.Joining.{HypothesisUse, use_link, and_then, put_all}
use Rattle.circ_plain_search.specs.Search.{Limits, Standing, Ending, chain_with, chained, has_links, or_end, spent, goals_limit, unless_past, derive_turn, next_goal, with_this, begun, next_block, done_turn, start, case_of, constants_of}
use Rattle.circ_conditional_search.specs.Joining.{Swept, joined_trying}
use Rattle.circ_conditional_search.specs.Search.{Manner, condition_normaliser, normal_sides_trying, split_cases_trying, step_is_deep, step_recorded, with_sides_of, worked, goal_reduced, goal_simplified, cases_turn, case_term, derives_turn, hidden_turn_trying, visible_turn_trying, open_turn_trying, swept_sides_trying, pass_chain, passed_sides, pass_turn_trying, join_turn_trying, sides_turn_trying, goal_turn_trying}
use Rattle.circ_conditional_norm.specs.Work.{Work, Made, Out, Past}

record Through {A B E : Type 0} (r : Result A E) (f : A → Result B E) (b : B) : Type 0 where
  pub value : A
  pub first : r ≡ Ok value
  pub last : f value ≡ Ok b

through : {A B E : Type 0} (r : Result A E) (f : A → Result B E) (b : B) → and_then r f ≡ Ok b → Through r f b
through (Ok a) f b e = record { value = a; first = refl; last = e }
through (Err x) f b e = absurd (cc)

same_Ok : {A E : Type 0} (a b : A) → ◌≡◌ {A = Result A E} (Ok a) (Ok b) → a ≡ b
same_Ok a b e = cc

if_false : {A : Type 0} (b : Bool) (x : Ending) (r : Result A Ending) (y : A) → (if b then Err x else r) ≡ Ok y → r ≡ Ok y
if_false true x r y e = absurd (cc)
if_false false x r y e = e

worked_is : {A B : Type 0} (l : Limits) (st : Standing) (w : Work A) (f : A → Standing → Result B Ending) (y : B) → worked l st w f ≡ Ok y
    → (a : A) × (k : ℕ) × (f a (record st { budget = k }) ≡ Ok y)
worked_is l st (Made a k) f y e = (a, k, e)
worked_is l st Out f y e = absurd (cc)
worked_is l st (Past x k) f y e = absurd (cc)

module _ (th : Theory) (l : Limits) where
  recorded : (st y : Standing) (x : ProofStep Tree) → step_recorded th l st x ≡ Ok y → y.earlier ≡ st.earlier
  recorded st y x e =
      let z = if_false (nat_le step_limit st.made) (spent l st) (Ok (record st { steps = st.steps ++ x ∷ []; made = st.made + 1; deep = st.deep || step_is_deep th st.hypotheses x })) y e in
      ap (λ s. s.earlier) (sym (same_Ok _ y z))

  reduced_keeps : (st y : Standing) (rest : List Goal) (why : WhyOf Tree) → goal_reduced th l st rest why ≡ Ok y → y.earlier ≡ st.earlier
  reduced_keeps st y rest why e =
      let x : Through (step_recorded th l st (Reduce why)) (λ z. Ok (next_goal z.hypotheses rest z)) y = through _ _ y e in
      ap (λ s. s.earlier) (sym (same_Ok (next_goal x.value.hypotheses rest x.value) y x.last)) ∙ recorded st x.value (Reduce why) x.first

  derive_keeps : (st y : Standing) (g : Goal) (rest : List Goal) → derive_turn th l st g rest ≡ Ok y → y.earlier ≡ st.earlier
  derive_keeps st y g rest e =
      let F : List Goal → Result Standing Ending
      = λ k. and_then (step_recorded th l st Derive) (λ x. Ok (next_goal (x.hypotheses ++ g ∷ []) (rest ++ k) (record x { derives = x.derives + 1 }))) in
      let u : Through (or_end l st (unless_past (goals_limit (derivatives_on th g)) (derivatives_on th g))) F y
      = through _ _ y (if_false (nat_le step_limit st.made) (spent l st) _ y e) in
      let x : Through (step_recorded th l st Derive) (λ z. Ok (next_goal (z.hypotheses ++ g ∷ []) (rest ++ u.value) (record z { derives = z.derives + 1 }))) y = through _ _ y u.last in
      ap (λ s. s.earlier) (sym (same_Ok (next_goal (x.value.hypotheses ++ g ∷ []) (rest ++ u.value) (record x.value { derives = x.value.derives + 1 })) y x.last)) ∙ recorded st x.value Derive x.first

  simplified_keeps : (st y : Standing) → goal_simplified th l st ≡ Ok y → y.earlier ≡ st.earlier
  simplified_keeps st y e = go (has_links st.chain) e
    where
      go : (b : Bool) → (if b then step_recorded th l st (Simplify st.chain) else Ok st) ≡ Ok y → y.earlier ≡ st.earlier
      go true z = recorded st y (Simplify st.chain) z
      go false z = ap (λ s. s.earlier) (sym (same_Ok st y z))

  derives_keeps : (st y : Standing) (g : Goal) (rest : List Goal) → derives_turn th l st g rest ≡ Ok y → y.earlier ≡ st.earlier
  derives_keeps st y g rest e =
      let x : Through (goal_simplified th l st) (λ z. derive_turn th l z g rest) y = through _ _ y (if_false (nat_le l.derives st.derives) (spent l st) _ y e) in
      derive_keeps x.value y g rest x.last ∙ simplified_keeps st x.value x.first

  cases_keep : (st y : Standing) (g : Goal) (rest : List Goal) (u : Tree) → cases_turn th l st g rest u ≡ Ok y → y.earlier ≡ st.earlier
  cases_keep st y g rest u e =
      let Q : List Goal = map (λ c. with_cond g (case_of u c)) (constants_of th (sort_of u)) ++ rest in
      let x : Through (goal_simplified th l st) (λ z. and_then (step_recorded th l z (Cases u)) (λ w. Ok (next_goal w.hypotheses Q w))) y = through _ _ y e in
      let z : Through (step_recorded th l x.value (Cases u)) (λ w. Ok (next_goal w.hypotheses Q w)) y = through _ _ y x.last in
      ap (λ s. s.earlier) (sym (same_Ok (next_goal z.value.hypotheses Q z.value) y z.last)) ∙ recorded x.value z.value (Cases u) z.first ∙ simplified_keeps st x.value x.first

  visible_keeps : (st y : Standing) (g : Goal) (rest : List Goal) → visible_turn_trying th l st g rest ≡ Ok y → y.earlier ≡ st.earlier
  visible_keeps st y g rest e =
      let x : Through (or_end l st (split_cases_trying th (block_rules th st.earlier) split_limit g.conds g.left g.right st.budget))
      (λ c. goal_reduced th l (record st { budget = c.budget }) rest (Split_why st.chain c.term c.whys)) y = through _ _ y e in
      reduced_keeps (record st { budget = x.value.budget }) y rest (Split_why st.chain x.value.term x.value.whys) x.last

module _ (th : Theory) (m : Manner) where
  hidden_keeps : (st y : Standing) (g : Goal) (rest : List Goal) → hidden_turn_trying th m st g rest ≡ Ok y → y.earlier ≡ st.earlier
  hidden_keeps st y g rest e = go (case_term th m.split g) e
    where
      go : (o : Option Tree) → option_map_or (cases_turn th m.limits st g rest) o (derives_turn th m.limits st g rest) ≡ Ok y → y.earlier ≡ st.earlier
      go None z = derives_keeps th m.limits st y g rest z
      go (Some u) z = cases_keep th m.limits st y g rest u z

  open_keeps : (st y : Standing) (g : Goal) (rest : List Goal) → open_turn_trying th m st g rest ≡ Ok y → y.earlier ≡ st.earlier
  open_keeps st y g rest e = go (is_hidden th (sort_of g.left)) e
    where
      go : (b : Bool) → (if b then hidden_turn_trying th m st g rest else visible_turn_trying th m.limits st g rest) ≡ Ok y → y.earlier ≡ st.earlier
      go true z = hidden_keeps st y g rest z
      go false z = visible_keeps th m.limits st y g rest z

  pass_keeps : (G : List Place) (st y : Standing) (g : Goal) (rest : List Goal) → pass_turn_trying th G m st g rest ≡ Ok y → y.earlier ≡ st.earlier
  pass_keeps G st y g rest e =
      let r = worked_is m.limits st (swept_sides_trying th G st.earlier g st.budget)
      (λ w x. if has_links (pass_chain w) then Ok (with_sides_of x g rest (passed_sides w x.budget)) else open_turn_trying th m x g rest) y e in
      go r.0 r.1 (has_links (pass_chain r.0)) r.2
    where
      go : (w : Swept × Swept) (k : ℕ) (b : Bool)
          → (if b then Ok (with_sides_of (record st { budget = k }) g rest (passed_sides w k)) else open_turn_trying th m (record st { budget = k }) g rest) ≡ Ok y
          → y.earlier ≡ st.earlier
      go w k true z = ap (λ s. s.earlier) (sym (same_Ok (with_sides_of (record st { budget = k }) g rest (passed_sides w k)) y z))
      go w k false z = open_keeps (record st { budget = k }) y g rest z

  join_keeps : (G : List Place) (st y : Standing) (g : Goal) (rest : List Goal) (o : Option (List HypothesisUse)) → join_turn_trying th G m st g rest o ≡ Ok y → y.earlier ≡ st.earlier
  join_keeps G st y g rest None e = pass_keeps G st y g rest e
  join_keeps G st y g rest (Some us) e =
      let x : Through (or_end m.limits st (put_all g.left us)) (λ u. goal_reduced th m.limits st rest (Same_why (chained st.chain (chain_with (map use_link us) [])))) y = through _ _ y e in
      reduced_keeps th m.limits st y rest (Same_why (chained st.chain (chain_with (map use_link us) []))) x.last

  pub goal_keeps : (G : List Place) (st y : Standing) (g : Goal) (rest : List Goal) → goal_turn_trying th G m st g rest ≡ Ok y → y.earlier ≡ st.earlier
  goal_keeps G st y g rest e =
      let x : Through (or_end m.limits st (normal_sides_trying th (block_rules th st.earlier) g.conds g.left g.right st.budget))
      (λ n. sides_turn_trying th G m (with_sides_of st g rest n) (goal g.conds n.left n.right) rest) y = through _ _ y e in
      let at : Standing = with_sides_of st g rest x.value in
      let h : Goal = goal g.conds x.value.left x.value.right in
      let r = worked_is m.limits at (joined_trying (condition_normaliser th at.earlier h.conds) G at.hypotheses [] h.left h.right at.budget) (λ o z. join_turn_trying th G m z h rest o) y x.last in
      join_keeps G (record at { budget = r.1 }) y h rest r.0 r.2

-- the next block has the goals of this one behind those of earlier blocks
pub done_earlier : (th : Theory) (l : Limits) (st y : Standing) → done_turn th l st ≡ Ok y → y.earlier ≡ st.earlier ++ st.goals
done_earlier th l st y e =
    let x : Through (step_recorded th l st Done) (λ z. next_block z z.later) y = through _ _ y e in
    let z = if_false (nat_le step_limit st.made) (spent l st) (Ok (record st { steps = st.steps ++ Done ∷ []; made = st.made + 1; deep = st.deep || step_is_deep th st.hypotheses Done })) x.value x.first in
    let same : record st { steps = st.steps ++ Done ∷ []; made = st.made + 1; deep = st.deep || step_is_deep th st.hypotheses Done } ≡ x.value = same_Ok _ x.value z in
    go x.value x.value.later x.last ∙ ap (λ s. s.earlier ++ s.goals) (sym same)
  where
    go : (x : Standing) (bs : List (List Goal)) → next_block x bs ≡ Ok y → y.earlier ≡ x.earlier ++ x.goals
    go x [] e = absurd (cc)
    go x (b ∷ bs) e = ap (λ s. s.earlier) (sym (same_Ok (begun (with_this x) (x.earlier ++ x.goals) b bs x.budget x.derives x.made x.deep) y e))

pub start_earlier : (l : Limits) (bs : List (List Goal)) → (start l bs).earlier ≡ []
start_earlier l [] = refl
start_earlier l (b ∷ bs) = refl

pub none_there : {X : Type 0} (Q : List X) (n : ℕ) → length Q ≡ n → (0 < n → false ≡ true) → Q ≡ []
none_there [] n e f = refl
none_there (x ∷ Q) n e f = absurd (let z = f (omega (arith, e)) in cc)
