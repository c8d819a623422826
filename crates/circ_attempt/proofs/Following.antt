-- What a turn adds to a block's steps and hypotheses, part by part, and so what is known of both of what the search comes to.
use Rattle.std.proofs.Common.{◌≡◌, ℕ, ◌+◌, Bool, true, false, if◌then◌else◌, List, [], ◌∷◌, ◌++◌, map, Option, Some, None, Result, Ok, refl, ap, sym, subst, ◌∙◌, arith, append_assoc, append-nil, length-append}
use Rattle.std.specs.Prelude.{nat_le}
use Rattle.std.specs.Option.{option_map_or}
use Rattle.circ_term.specs.Tree.{Tree, sort_of}
use Rattle.circ_theory.specs.Theory.{Theory, goal}
use Rattle.circ_theory.specs.Observing.{is_hidden}
use Rattle.circ_theory.specs.Goal.{Goal}
use Rattle.circ_special.specs.declared.place.Place.{Place}
use Rattle.circ_proof.specs.Goals.{with_cond}
use Rattle.circ_proof.specs.Plain.{ChainOf, WhyOf, Same_why, Split_why}
use Rattle.circ_proof.specs.Proof.{split_limit, step_limit}
use Rattle.circ_proof.specs.Rules.{ProofStep, Simplify, Reduce, Derive, Cases, Done, derivatives_on}
use Rattle.circ_plain_search.specs.BlockRules.{block_rules}
use Rattle.circ_plain_search.specs.Joining.{HypothesisUse, use_link, put_all, and_then}
use Rattle.circ_plain_search.specs.Search.{Standing, Ending, Sides, case_of, constants_of, chain_with, chained, spent, or_end, has_links, next_goal, goals_limit, unless_past, derive_turn, done_turn, begun, with_this, next_block}
use Rattle.circ_plain_search.proofs.Turns.{if_false}
use Rattle.circ_plain_search.proofs.Uses.{Through, through, same_Ok}
use Rattle.circ_conditional_search.specs.Joining.{joined_trying, Swept}
use Rattle.circ_conditional_search.specs.Search.{Manner, condition_normaliser, normal_sides_trying, split_cases_trying, step_recorded, with_sides_of, goal_reduced, goal_simplified, cases_turn, case_term, derives_turn, hidden_turn_trying, visible_turn_trying, open_turn_trying, worked, swept_sides_trying, pass_chain, passed_sides, pass_turn_trying, join_turn_trying, sides_turn_trying, goal_turn_trying, turn_trying_at}
use Rattle.circ_conditional_search.proofs.Runs.{recorded}
use Rattle.circ_conditional_search.proofs.Turns.{worked_is}
use Rattle.circ_content_join.specs.Joining.{joined_by_content}
use Rattle.circ_content_join.specs.Moves.{Move, move_link, make_all}
use Rattle.circ_attempt.specs.Attempt.{Stood, has_stood}
use Rattle.circ_attempt.specs.Following.{derives_in, GoesOn, Begins, Follows, in_block, to_next}
use Rattle.circ_attempt.specs.Search.{Conduct, Going, going, afresh, is_attempted, attempt_here, attempted_turn, attempt_turn, lemma_pass, after_pass_turn, pass_turn_rewriting, join_turn_rewriting, sides_turn_rewriting, goal_turn_rewriting, turn_rewriting_at, turn_rewriting}
use Rattle.circ_attempt.proofs.OwnRules.{derives_append}
use Rattle.circ_attempt.proofs.Turns.{afresh_is}

-- ---- a block goes on in parts

-- what changes no word of the block adds nothing
rests : (a b : Standing) → b.earlier ≡ a.earlier → b.goals ≡ a.goals → b.steps ≡ a.steps → b.hypotheses ≡ a.hypotheses → GoesOn a b
rests a b e g s h = record {
  earlier = e;
  goals = g;
  more_steps = [];
  steps = s ∙ sym (append-nil a.steps);
  more_hypotheses = [];
  hypotheses = h ∙ sym (append-nil a.hypotheses);
  derived = refl;
}

-- one part, then another
goes_further : (a b c : Standing) → GoesOn a b → GoesOn b c → GoesOn a c
goes_further a b c r s =
    let xs = r.more_steps in
    let ys = s.more_steps in
    let hs = r.more_hypotheses in
    let gs = s.more_hypotheses in
    let long = length-append hs gs in
    let all = derives_append xs ys in
    let h = r.derived in
    let g = s.derived in
    record {
      earlier = s.earlier ∙ r.earlier;
      goals = s.goals ∙ r.goals;
      more_steps = xs ++ ys;
      steps = s.steps ∙ ap (λ z. z ++ ys) r.steps ∙ append_assoc a.steps xs ys;
      more_hypotheses = hs ++ gs;
      hypotheses = s.hypotheses ∙ ap (λ z. z ++ gs) r.hypotheses ∙ append_assoc a.hypotheses hs gs;
      derived = omega (arith, long, all, h, g);
    }

-- so a part goes on from a standing of which it knows another budget, or other sides of the goal in hand
from_same : (a b c : Standing) → b.earlier ≡ a.earlier → b.goals ≡ a.goals → b.steps ≡ a.steps → b.hypotheses ≡ a.hypotheses → GoesOn b c → GoesOn a c
from_same a b c e g s h r = goes_further a b c (rests a b e g s h) r

from_budget : (st : Standing) (k : ℕ) (y : Standing) → GoesOn (record st { budget = k }) y → GoesOn st y
from_budget st k y r = from_same st (record st { budget = k }) y refl refl refl refl r

module _ (th : Theory) (G : List Place) (m : Manner) where
  -- ---- one step

  -- a step that adds no hypothesis
  plain_goes : (st : Standing) (x : ProofStep Tree) (y : Standing) → derives_in (x ∷ []) ≡ 0 → step_recorded th m.limits st x ≡ Ok y → GoesOn st y
  plain_goes st x y none e = subst (GoesOn st) (recorded th m.limits st x y e) (record {
    earlier = refl;
    goals = refl;
    more_steps = x ∷ [];
    steps = refl;
    more_hypotheses = [];
    hypotheses = sym (append-nil st.hypotheses);
    derived = sym none;
  })

  -- such a step, and the goal in hand gives way to others
  next_goes : (st : Standing) (x : ProofStep Tree) (Q : List Goal) (y : Standing) → derives_in (x ∷ []) ≡ 0
      → and_then (step_recorded th m.limits st x) (λ z. Ok (next_goal z.hypotheses Q z)) ≡ Ok y → GoesOn st y
  next_goes st x Q y none e =
      let r : Through (step_recorded th m.limits st x) (λ z. Ok (next_goal z.hypotheses Q z)) y = through _ _ y e in
      let z : Standing = r.value in
      let last : Standing = next_goal z.hypotheses Q z in
      goes_further st z y (plain_goes st x z none r.first) (subst (GoesOn z) (same_Ok last y r.last) (rests z last refl refl refl refl))

  reduced_goes : (st : Standing) (rest : List Goal) (why : WhyOf Tree) (y : Standing) → goal_reduced th m.limits st rest why ≡ Ok y → GoesOn st y
  reduced_goes st rest why y e = next_goes st (Reduce why) rest y refl e

  simplified_goes : (st y : Standing) → goal_simplified th m.limits st ≡ Ok y → GoesOn st y
  simplified_goes st y e = go (has_links st.chain) e
    where
      go : (v : Bool) → (if v then step_recorded th m.limits st (Simplify st.chain) else Ok st) ≡ Ok y → GoesOn st y
      go true z = plain_goes st (Simplify st.chain) y refl z
      go false z = subst (GoesOn st) (same_Ok st y z) (rests st st refl refl refl refl)

  cases_goes : (st : Standing) (g : Goal) (rest : List Goal) (u : Tree) (y : Standing) → cases_turn th m.limits st g rest u ≡ Ok y → GoesOn st y
  cases_goes st g rest u y e =
      let Q : List Goal = map (λ c. with_cond g (case_of u c)) (constants_of th (sort_of u)) ++ rest in
      let x : Through (goal_simplified th m.limits st) (λ z. and_then (step_recorded th m.limits z (Cases u)) (λ w. Ok (next_goal w.hypotheses Q w))) y = through _ _ y e in
      goes_further st x.value y (simplified_goes st x.value x.first) (next_goes x.value (Cases u) Q y refl x.last)

  derive_goes : (st : Standing) (g : Goal) (rest : List Goal) (y : Standing) → derive_turn th m.limits st g rest ≡ Ok y → GoesOn st y
  derive_goes st g rest y e =
      let gs : List Goal = derivatives_on th g in
      let next : List Goal → Standing → Standing = λ k z. next_goal (z.hypotheses ++ g ∷ []) (rest ++ k) (record z { derives = z.derives + 1 }) in
      let u : Through (or_end m.limits st (unless_past (goals_limit gs) gs)) (λ k. and_then (step_recorded th m.limits st Derive) (λ z. Ok (next k z))) y
      = through _ _ y (if_false (nat_le step_limit st.made) (spent m.limits st) _ y e) in
      let x : Through (step_recorded th m.limits st Derive) (λ z. Ok (next u.value z)) y = through _ _ y u.last in
      let P : Standing → Type 0 = λ z. GoesOn st (next u.value z) in
      subst (GoesOn st) (same_Ok (next u.value x.value) y x.last) (subst P (recorded th m.limits st Derive x.value x.first) (record {
        earlier = refl;
        goals = refl;
        more_steps = Derive ∷ [];
        steps = refl;
        more_hypotheses = g ∷ [];
        hypotheses = refl;
        derived = refl;
      }))

  derives_goes : (st : Standing) (g : Goal) (rest : List Goal) (y : Standing) → derives_turn th m.limits st g rest ≡ Ok y → GoesOn st y
  derives_goes st g rest y e =
      let x : Through (goal_simplified th m.limits st) (λ z. derive_turn th m.limits z g rest) y
      = through _ _ y (if_false (nat_le m.limits.derives st.derives) (spent m.limits st) _ y e) in
      goes_further st x.value y (simplified_goes st x.value x.first) (derive_goes x.value g rest y x.last)

  open_goes : (st : Standing) (g : Goal) (rest : List Goal) (y : Standing) → open_turn_trying th m st g rest ≡ Ok y → GoesOn st y
  open_goes st g rest y e = go (is_hidden th (sort_of g.left)) e
    where
      hidden : (o : Option Tree) → option_map_or (cases_turn th m.limits st g rest) o (derives_turn th m.limits st g rest) ≡ Ok y → GoesOn st y
      hidden None z = derives_goes st g rest y z
      hidden (Some u) z = cases_goes st g rest u y z

      go : (v : Bool) → (if v then hidden_turn_trying th m st g rest else visible_turn_trying th m.limits st g rest) ≡ Ok y → GoesOn st y
      go true z = hidden (case_term th m.split g) z
      go false z =
          let x : Through (or_end m.limits st (split_cases_trying th (block_rules th st.earlier) split_limit g.conds g.left g.right st.budget))
          (λ c. goal_reduced th m.limits (record st { budget = c.budget }) rest (Split_why st.chain c.term c.whys)) y = through _ _ y z in
          let c = x.value in
          from_budget st c.budget y (reduced_goes (record st { budget = c.budget }) rest (Split_why st.chain c.term c.whys) y x.last)

  -- the sides of the goal in hand are others
  sides_go : (st : Standing) (g : Goal) (rest : List Goal) (n : Sides) (y : Standing) → GoesOn (with_sides_of st g rest n) y → GoesOn st y
  sides_go st g rest n y r = from_same st (with_sides_of st g rest n) y refl refl refl refl r

  passed_goes : (st : Standing) (g : Goal) (rest : List Goal) (n : Sides) → GoesOn st (with_sides_of st g rest n)
  passed_goes st g rest n = rests st (with_sides_of st g rest n) refl refl refl refl

  -- behind a block's last goal there is the next block
  begins : (st : Standing) (later : List (List Goal)) (y : Standing) → next_block st later ≡ Ok y → Begins st y
  begins st [] y e = absurd (cc)
  begins st (b ∷ bs) y e =
      subst (Begins st) (same_Ok (begun (with_this st) (st.earlier ++ st.goals) b bs st.budget st.derives st.made st.deep) y e)
      (record { earlier = refl; hypotheses = refl; steps = refl; queue = refl })

  done_begins : (st y : Standing) → done_turn th m.limits st ≡ Ok y → Begins st y
  done_begins st y e =
      let d : Through (step_recorded th m.limits st Done) (λ z. next_block z z.later) y = through _ _ y e in
      let P : Standing → Type 0 = λ z. Begins z y in
      let b = subst P (sym (recorded th m.limits st Done d.value d.first)) (begins d.value d.value.later y d.last) in
      record { earlier = b.earlier; hypotheses = b.hypotheses; steps = b.steps; queue = b.queue }

  -- ---- a turn of the search with conditions

  pass_goes_trying : (st : Standing) (g : Goal) (rest : List Goal) (y : Standing) → pass_turn_trying th G m st g rest ≡ Ok y → GoesOn st y
  pass_goes_trying st g rest y e =
      let r = worked_is m.limits st (swept_sides_trying th G st.earlier g st.budget)
      (λ w x. if has_links (pass_chain w) then Ok (with_sides_of x g rest (passed_sides w x.budget)) else open_turn_trying th m x g rest) y e in
      from_budget st r.1 y (go r.0 (record st { budget = r.1 }) (has_links (pass_chain r.0)) r.3)
    where
      go : (w : Swept × Swept) (x : Standing) (v : Bool)
          → (if v then Ok (with_sides_of x g rest (passed_sides w x.budget)) else open_turn_trying th m x g rest) ≡ Ok y → GoesOn x y
      go w x true z = let n = passed_sides w x.budget in subst (GoesOn x) (same_Ok (with_sides_of x g rest n) y z) (passed_goes x g rest n)
      go w x false z = open_goes x g rest y z

  join_goes_trying : (st : Standing) (g : Goal) (rest : List Goal) (o : Option (List HypothesisUse)) (y : Standing) → join_turn_trying th G m st g rest o ≡ Ok y
      → GoesOn st y
  join_goes_trying st g rest None y e = pass_goes_trying st g rest y e
  join_goes_trying st g rest (Some us) y e =
      let c : ChainOf Tree = chained st.chain (chain_with (map use_link us) []) in
      let x : Through (or_end m.limits st (put_all g.left us)) (λ u. goal_reduced th m.limits st rest (Same_why c)) y = through _ _ y e in
      reduced_goes st rest (Same_why c) y x.last

  goal_goes_trying : (st : Standing) (g : Goal) (rest : List Goal) (y : Standing) → goal_turn_trying th G m st g rest ≡ Ok y → GoesOn st y
  goal_goes_trying st g rest y e =
      let x : Through (or_end m.limits st (normal_sides_trying th (block_rules th st.earlier) g.conds g.left g.right st.budget))
      (λ n. sides_turn_trying th G m (with_sides_of st g rest n) (goal g.conds n.left n.right) rest) y = through _ _ y e in
      let n : Sides = x.value in
      let st' : Standing = with_sides_of st g rest n in
      let g' : Goal = goal g.conds n.left n.right in
      let r = worked_is m.limits st' (joined_trying (condition_normaliser th st.earlier g.conds) G st.hypotheses [] n.left n.right n.budget)
      (λ o z. join_turn_trying th G m z g' rest o) y x.last in
      sides_go st g rest n y (from_budget st' r.1 y (join_goes_trying (record st' { budget = r.1 }) g' rest r.0 y r.3))

  -- ---- a turn with hypotheses as rules

  attempted_goes : (st : Standing) (g : Goal) (rest : List Goal) (o : Option (ChainOf Tree)) (y : Standing) → attempted_turn th m st g rest o ≡ Ok y → GoesOn st y
  attempted_goes st g rest (Some c) y e = reduced_goes st rest (Same_why (chained st.chain c)) y e
  attempted_goes st g rest None y e = open_goes st g rest y e

  attempt_goes : (st : Standing) (g : Goal) (rest : List Goal) (y : Standing) → attempt_turn th G m st g rest ≡ Ok y → GoesOn st y
  attempt_goes st g rest y e = go (is_attempted th st g) e
    where
      go : (v : Bool)
          → (if v then worked m.limits st (attempt_here th G st g) (λ o x. attempted_turn th m x g rest o) else open_turn_trying th m st g rest) ≡ Ok y → GoesOn st y
      go true z =
          let r = worked_is m.limits st (attempt_here th G st g) (λ o x. attempted_turn th m x g rest o) y z in
          from_budget st r.1 y (attempted_goes (record st { budget = r.1 }) g rest r.0 y r.3)
      go false z = open_goes st g rest y z

  after_pass_goes : (st : Standing) (g : Goal) (rest : List Goal) (ps : Stood) (w : Swept × Swept) (y : Going) → after_pass_turn th G m ps g rest w st ≡ Ok y
      → GoesOn st y.standing
  after_pass_goes st g rest ps w y e = go (has_links (pass_chain w)) e
    where
      n : Sides
      n = passed_sides w st.budget

      go : (v : Bool) → (if v then Ok (going (with_sides_of st g rest n) ((g.left, g.right) ∷ ps)) else afresh (attempt_turn th G m st g rest)) ≡ Ok y
          → GoesOn st y.standing
      go true z =
          let P : Going → Type 0 = λ d. GoesOn st d.standing in
          subst P (same_Ok (going (with_sides_of st g rest n) ((g.left, g.right) ∷ ps)) y z) (passed_goes st g rest n)
      go false z = attempt_goes st g rest y.standing (afresh_is (attempt_turn th G m st g rest) y z)

  pass_goes : (st : Standing) (ps : Stood) (g : Goal) (rest : List Goal) (y : Going) → pass_turn_rewriting th G m st ps g rest ≡ Ok y → GoesOn st y.standing
  pass_goes st ps g rest y e = go (has_stood g.left g.right ps) e
    where
      go : (v : Bool) → (if v then afresh (attempt_turn th G m st g rest) else worked m.limits st (lemma_pass th G st g) (after_pass_turn th G m ps g rest)) ≡ Ok y
          → GoesOn st y.standing
      go true z = attempt_goes st g rest y.standing (afresh_is (attempt_turn th G m st g rest) y z)
      go false z =
          let r = worked_is m.limits st (lemma_pass th G st g) (after_pass_turn th G m ps g rest) y z in
          from_budget st r.1 y.standing (after_pass_goes (record st { budget = r.1 }) g rest ps r.0 y r.3)

  join_goes : (st : Standing) (ps : Stood) (g : Goal) (rest : List Goal) (vs : Option (List Move)) (y : Going) → join_turn_rewriting th G m ps g rest vs st ≡ Ok y
      → GoesOn st y.standing
  join_goes st ps g rest None y e = pass_goes st ps g rest y e
  join_goes st ps g rest (Some vs) y e =
      let c : ChainOf Tree = chained st.chain (chain_with (map move_link vs) []) in
      let x : Through (or_end m.limits st (make_all g.left vs)) (λ u. goal_reduced th m.limits st rest (Same_why c)) y.standing = through _ _ y.standing (afresh_is _ y e) in
      reduced_goes st rest (Same_why c) y.standing x.last

  goal_goes : (st : Standing) (ps : Stood) (g : Goal) (rest : List Goal) (y : Going) → goal_turn_rewriting th G m st ps g rest ≡ Ok y → GoesOn st y.standing
  goal_goes st ps g rest y e =
      let x : Through (or_end m.limits st (normal_sides_trying th (block_rules th st.earlier) g.conds g.left g.right st.budget))
      (λ n. sides_turn_rewriting th G m (with_sides_of st g rest n) ps (goal g.conds n.left n.right) rest) y = through _ _ y e in
      let n : Sides = x.value in
      let st' : Standing = with_sides_of st g rest n in
      let g' : Goal = goal g.conds n.left n.right in
      let r = worked_is m.limits st' (joined_by_content (condition_normaliser th st.earlier g.conds) th.signature G st.hypotheses [] n.left n.right n.budget)
      (join_turn_rewriting th G m ps g' rest) y x.last in
      sides_go st g rest n y.standing (from_budget st' r.1 y.standing (join_goes (record st' { budget = r.1 }) ps g' rest r.0 y r.3))

module _ (th : Theory) (G : List Place) (l : Conduct) (x y : Going) (e : turn_rewriting th G l x ≡ Ok y) where
  abbrev m : Manner
  m = l.manner

  abbrev st : Standing
  st = x.standing

  abbrev turn_at : (rewrite : Bool) → (queue : List Goal) → Result Going Ending
  turn_at v Q = if v then turn_rewriting_at th G m st x.passed Q else afresh (turn_trying_at th G m st Q)

  -- the block goes on while there is a goal
  pub goal_follows : (g : Goal) (rest : List Goal) → st.queue ≡ g ∷ rest → GoesOn st y.standing
  goal_follows g rest is = go l.rewrite (sym (ap (turn_at l.rewrite) is) ∙ e)
    where
      go : (v : Bool) → turn_at v (g ∷ rest) ≡ Ok y → GoesOn st y.standing
      go true z = goal_goes th G m st x.passed g rest y z
      go false z = goal_goes_trying th G m st g rest y.standing (afresh_is (goal_turn_trying th G m st g rest) y z)

  -- the next one begins where there is none
  pub done_follows : st.queue ≡ [] → Begins st y.standing
  done_follows is = go l.rewrite (sym (ap (turn_at l.rewrite) is) ∙ e)
    where
      go : (v : Bool) → turn_at v [] ≡ Ok y → Begins st y.standing
      go true z = done_begins th G m st y.standing (afresh_is (done_turn th m.limits st) y z)
      go false z = done_begins th G m st y.standing (afresh_is (done_turn th m.limits st) y z)

  pub turn_follows : Follows st y.standing
  turn_follows = go st.queue refl
    where
      go : (Q : List Goal) → st.queue ≡ Q → Follows st y.standing
      go [] is = to_next (done_follows is)
      go (g ∷ rest) is = in_block (goal_follows g rest is)
