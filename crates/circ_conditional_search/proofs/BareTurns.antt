-- Where nothing has conditions and hidden goals are not split, each turn is the plain search's.
use Rattle.std.proofs.Common.{◌≡◌, ℕ, ◌+◌, Bool, true, false, ◌||◌, if◌then◌else◌, List, [], ◌∷◌, ◌++◌, map, length, Option, Some, None, Result, Ok, Err, refl, ap, sym, subst, ◌∙◌, arith}
use Rattle.std.specs.Prelude.{nat_le, not}
use Rattle.circ_term.specs.Tree.{Tree, sort_of}
use Rattle.circ_theory.specs.Theory.{Theory, HasNoConditions, goal}
use Rattle.circ_theory.specs.WellFormed.{IsWellFormed}
use Rattle.circ_theory.specs.Observing.{is_hidden}
use Rattle.circ_theory.specs.Goal.{Goal}
use Rattle.circ_special.specs.declared.place.Place.{Place}
use Rattle.circ_proof.specs.Plain.{ChainOf, WhyOf, Same_why, Split_why}
use Rattle.circ_proof.specs.Runs.{Runs}
use Rattle.circ_proof.specs.Rules.{state, Simplify, Reduce, StepOf}
use Rattle.circ_proof.specs.Proof.{step_limit, split_limit}
use Rattle.circ_rewrite.specs.Due.{AreUnconditional}
use Rattle.circ_rewrite.specs.declared.parts.Rule.{Rule}
use Rattle.circ_conditional_norm.specs.Tries.{Normaliser}
use Rattle.circ_conditional_norm.specs.Work.{Work, Made, Out, Past}
use Rattle.circ_plain_search.specs.BlockRules.{HaveNoConditions, lemma_rule, passing, is_hidden_lemma, hidden_lemmas, block_rules}
use Rattle.circ_plain_search.specs.Joining.{Stop, and_then, HypothesisUse, use_link, joined, swept, put_all, put_counted}
use Rattle.circ_plain_search.specs.Search.{Limits, Standing, Ending, Sides, SplitReason, sides_with, chain_with, chained, spent, or_end, is_nil, has_links, next_goal, with_sides, reduced, simplified, derive_turn, hidden_turn, visible_turn, open_turn, pass_turn, join_turn, sides_turn, goal_turn, turn_at, turn, normal_sides, split_cases, is_deep_chain, is_deep_why}
use Rattle.circ_plain_search.proofs.Passes.{counted}
use Rattle.circ_plain_search.proofs.Runs.{Ran, Held, Opened, bound}
use Rattle.circ_plain_search.proofs.Splits.{normal_sides_led}
use Rattle.circ_plain_search.proofs.Turns.{rules_here, bare_here, unconditional_here, sides_held, turn_good}
use Rattle.circ_conditional_search.specs.Joining.{Swept, swept_with, swept_trying, work_then}
use Rattle.circ_conditional_search.specs.Search.{Manner, chain_is_deep, why_is_deep, goal_reduced, goal_simplified, derives_turn, hidden_turn_trying, visible_turn_trying, open_turn_trying, worked, pass_chain, passed_sides, with_sides_of, pass_turn_trying, join_turn_trying, sides_turn_trying, goal_turn_trying, turn_trying_at, turn_trying, condition_normaliser}
use Rattle.circ_conditional_search.proofs.BareDeep.{deep_links, last_deep}
use Rattle.circ_conditional_search.proofs.BareParts.{sides_same, split_same, joined_same, AsPut, swept_as}

-- the last of steps that run
runs_last : {X S : Type 0} (L : X → S → S → Type 0) (xs : List X) (x : X) (a b : S) → Runs L (xs ++ x ∷ []) a b → (m : S) × L x m b
runs_last {S = S} L [] x a b r = let P : S → Type 0 = L x a in (a, subst P r.2 r.1)
runs_last L (y ∷ ys) x a b r = runs_last L ys x r.0 b r.2

ran_of : (th : Theory) (G : List Place) (blocks : List (List Goal)) (st : Standing) (Q : List Goal) → Opened th G blocks st Q → (K : List Goal) × Ran th G blocks st K
ran_of th G blocks st [] o = ([], o)
ran_of th G blocks st (g ∷ rest) o = (o.0 ∷ rest, o.1.ran)

lemmas_bare : (test : Goal → Bool) (n : ℕ) (gs : List Goal) → HaveNoConditions gs → AreUnconditional (passing test n gs)
lemmas_bare test n [] a = tt
lemmas_bare test n (g ∷ gs) a = go (test g) (lemmas_bare test (n + 1) gs a.1)
  where
    go : (b : Bool) → AreUnconditional (passing test (n + 1) gs)
        → AreUnconditional (if b then lemma_rule n g ∷ passing test (n + 1) gs else passing test (n + 1) gs)
    go true r = (a.0, r)
    go false r = r

no_uses : (us vs : List HypothesisUse) → not (is_nil (map use_link us ++ map use_link vs)) ≡ false → (length us ≡ 0) × (length vs ≡ 0)
no_uses [] [] e = (refl, refl)
no_uses [] (v ∷ vs) e = absurd (cc)
no_uses (u ∷ us) vs e = absurd (cc)

-- a plain search's manner
abbrev pub unsplit : Limits → Manner
unsplit l = record { limits = l; split = false }

module _ (th : Theory) (wf : IsWellFormed th) (none : HasNoConditions th) (G : List Place) (l : Limits) (blocks : List (List Goal)) (st : Standing)
    (good : Opened th G blocks st st.queue) where
  -- ---- Reduce

  reduced_same : (x : Standing) (rest : List Goal) (why : WhyOf Tree) → turn th G l st ≡ reduced th l x rest why → goal_reduced th l x rest why ≡ reduced th l x rest why
  reduced_same x rest why e = go (nat_le step_limit x.made) refl
    where
      new : Bool → Standing
      new d = record x { steps = x.steps ++ Reduce why ∷ []; made = x.made + 1; deep = x.deep || d }

      made : Bool → Bool → Result Standing Ending
      made b d = and_then (if b then Err (spent l x) else Ok (new d)) (λ z. Ok (next_goal z.hypotheses rest z))

      go : (b : Bool) → nat_le step_limit x.made ≡ b → goal_reduced th l x rest why ≡ reduced th l x rest why
      go true k =
          ap (λ b. made b (why_is_deep th x.hypotheses why)) k ∙ sym (ap (λ b. made b (is_deep_why th x.hypotheses why)) k)
      go false k =
          let y : Standing = next_goal x.hypotheses rest (new (is_deep_why th x.hypotheses why)) in
          let ok : turn th G l st ≡ Ok y = e ∙ ap (λ b. made b (is_deep_why th x.hypotheses why)) k in
          let o = ran_of th G blocks y rest (turn_good th wf none G l blocks st y good ok) in
          let m = runs_last (StepOf th G) x.steps (Reduce why) (state y.earlier y.goals) (state y.hypotheses o.0) o.1.run.under in
          let d = last_deep th none G why m.0.hypotheses m.0.goals (state y.hypotheses o.0) o.1.bare m.1 in
          ap (made (nat_le step_limit x.made)) d

  -- ---- a goal that does not Join, and that no lemma rewrites

  module _ (x : Standing) (un : AreUnconditional (block_rules th x.earlier)) (deep : chain_is_deep th x.hypotheses x.chain ≡ is_deep_chain th x.hypotheses x.chain)
      (s t : Tree) (rest : List Goal) where
    abbrev g : Goal
    g = goal [] s t

    simplified_same : goal_simplified th l x ≡ simplified th l x
    simplified_same =
        λ i. if has_links x.chain
        then (if nat_le step_limit x.made then Err (spent l x)
        else Ok (record x { steps = x.steps ++ Simplify x.chain ∷ []; made = x.made + 1; deep = x.deep || deep i }))
        else Ok x

    derives_same : derives_turn th l x g rest ≡ hidden_turn th l x g rest
    derives_same = λ i. if nat_le l.derives x.derives then Err (spent l x) else and_then (simplified_same i) (λ z. derive_turn th l z g rest)

    visible_same : turn th G l st ≡ visible_turn th l x g rest → visible_turn_trying th l x g rest ≡ visible_turn th l x g rest
    visible_same e =
        (λ i. and_then (or_end l x (split_same th (block_rules th x.earlier) un split_limit [] s t x.budget i))
        (λ c. goal_reduced th l (record x { budget = c.budget }) rest (Split_why x.chain c.term c.whys)))
        ∙ go (or_end l x (split_cases th (block_rules th x.earlier) split_limit [] s t x.budget)) e
      where
        go : (r : Result SplitReason Ending) → turn th G l st ≡ and_then r (λ c. reduced th l (record x { budget = c.budget }) rest (Split_why x.chain c.term c.whys))
            → and_then r (λ c. goal_reduced th l (record x { budget = c.budget }) rest (Split_why x.chain c.term c.whys))
            ≡ and_then r (λ c. reduced th l (record x { budget = c.budget }) rest (Split_why x.chain c.term c.whys))
        go (Ok c) z = reduced_same (record x { budget = c.budget }) rest (Split_why x.chain c.term c.whys) z
        go (Err y) z = refl

    open_same : turn th G l st ≡ open_turn th l x g rest → open_turn_trying th (unsplit l) x g rest ≡ open_turn th l x g rest
    open_same e = go (is_hidden th (sort_of s)) e
      where
        go : (b : Bool) → turn th G l st ≡ (if b then hidden_turn th l x g rest else visible_turn th l x g rest)
            → (if b then hidden_turn_trying th (unsplit l) x g rest else visible_turn_trying th l x g rest)
            ≡ (if b then hidden_turn th l x g rest else visible_turn th l x g rest)
        go true z = derives_same
        go false z = visible_same z

    -- ---- a lemma pass

    module _ (bare : HaveNoConditions x.earlier) where
      abbrev f : Normaliser
      f = condition_normaliser th x.earlier []

      abbrev L : List Rule
      L = hidden_lemmas th 0 x.earlier

      abbrev us : List HypothesisUse
      us = swept G L [] s

      abbrev vs : List HypothesisUse
      vs = swept G L [] t

      abbrev chain : ChainOf Tree
      chain = chain_with (map use_link us) (map use_link vs)

      abbrev after : Sides → Result Standing Ending
      after n = if has_links n.chain then Ok (with_sides x rest n) else open_turn th l x g rest

      abbrev after_trying : Swept × Swept → Standing → Result Standing Ending
      after_trying w y = if has_links (pass_chain w) then Ok (with_sides_of y g rest (passed_sides w y.budget)) else open_turn_trying th (unsplit l) y g rest

      both_same : (a b : Swept) (n : ℕ) → a.uses ≡ us → b.uses ≡ vs → (has_links chain ≡ false → n ≡ x.budget)
          → turn th G l st ≡ after (sides_with a.whole b.whole chain n) → after_trying (a, b) (record x { budget = n }) ≡ after (sides_with a.whole b.whole chain n)
      both_same a b n ua ub left e =
          let c : pass_chain (a, b) ≡ chain = λ i. chain_with (map use_link (ua i)) (map use_link (ub i)) in
          (λ i. if has_links (c i) then Ok (with_sides_of (record x { budget = n }) g rest (sides_with a.whole b.whole (c i) n))
          else open_turn_trying th (unsplit l) (record x { budget = n }) g rest)
          ∙ go (has_links chain) refl e
        where
          go : (d : Bool) → has_links chain ≡ d
              → turn th G l st ≡ (if d then Ok (with_sides x rest (sides_with a.whole b.whole chain n)) else open_turn th l x g rest)
              → (if d then Ok (with_sides_of (record x { budget = n }) g rest (sides_with a.whole b.whole chain n))
              else open_turn_trying th (unsplit l) (record x { budget = n }) g rest)
              ≡ (if d then Ok (with_sides x rest (sides_with a.whole b.whole chain n)) else open_turn th l x g rest)
          go true k z = refl
          go false k z = ap (λ j. open_turn_trying th (unsplit l) (record x { budget = j }) g rest) (left k) ∙ open_same z

      second_same : (a : Swept) (m : ℕ) → a.uses ≡ us → m + length us ≡ x.budget → (w : Work Swept) → AsPut (swept_with t []) vs w (put_counted m t vs)
          → turn th G l st ≡ and_then (or_end l x (and_then (put_counted m t vs) (λ b. Ok (sides_with a.whole b.0 chain b.1)))) after
          → worked l x (work_then w (λ b n. Made (a, b) n)) after_trying
          ≡ and_then (or_end l x (and_then (put_counted m t vs) (λ b. Ok (sides_with a.whole b.0 chain b.1)))) after
      second_same a m ua few (Made b n) p e =
          let is : and_then (or_end l x (and_then (put_counted m t vs) (λ b. Ok (sides_with a.whole b.0 chain b.1)))) after
          ≡ after (sides_with a.whole b.whole chain n)
          = ap (λ r. and_then (or_end l x (and_then r (λ b. Ok (sides_with a.whole b.0 chain b.1)))) after) p.0 in
          let fewer = (counted m t vs (b.whole, n) p.0).falls in
          both_same a b n ua p.1 (λ k. let z = no_uses us vs k in let z0 = z.0 in let z1 = z.1 in omega (arith, few, fewer, z0, z1)) (e ∙ is) ∙ sym is
      second_same a m ua few Out p e = sym (ap (λ r. and_then (or_end l x (and_then r (λ b. Ok (sides_with a.whole b.0 chain b.1)))) after) p)
      second_same a m ua few (Past y n) p e = sym (ap (λ r. and_then (or_end l x (and_then r (λ b. Ok (sides_with a.whole b.0 chain b.1)))) after) p)

      first_same : (w : Work Swept) → AsPut (swept_with s []) us w (put_counted x.budget s us)
          → turn th G l st
          ≡ and_then (or_end l x (and_then (put_counted x.budget s us) (λ a. and_then (put_counted a.1 t vs) (λ b. Ok (sides_with a.0 b.0 chain b.1))))) after
          → worked l x (work_then w (λ a m. work_then (swept_trying f G L [] t (swept_with t []) m) (λ b n. Made (a, b) n))) after_trying
          ≡ and_then (or_end l x (and_then (put_counted x.budget s us) (λ a. and_then (put_counted a.1 t vs) (λ b. Ok (sides_with a.0 b.0 chain b.1))))) after
      first_same (Made a m) p e =
          let is : and_then (or_end l x (and_then (put_counted x.budget s us) (λ a. and_then (put_counted a.1 t vs) (λ b. Ok (sides_with a.0 b.0 chain b.1))))) after
          ≡ and_then (or_end l x (and_then (put_counted m t vs) (λ b. Ok (sides_with a.whole b.0 chain b.1)))) after
          = ap (λ r. and_then (or_end l x (and_then r (λ a. and_then (put_counted a.1 t vs) (λ b. Ok (sides_with a.0 b.0 chain b.1))))) after) p.0 in
          second_same a m p.1 (counted x.budget s us (a.whole, m) p.0).falls (swept_trying f G L [] t (swept_with t []) m)
          (swept_as f G L (lemmas_bare (is_hidden_lemma th) 0 x.earlier bare) [] t (swept_with t []) m) (e ∙ is)
          ∙ sym is
      first_same Out p e =
          sym (ap (λ r. and_then (or_end l x (and_then r (λ a. and_then (put_counted a.1 t vs) (λ b. Ok (sides_with a.0 b.0 chain b.1))))) after) p)
      first_same (Past y n) p e =
          sym (ap (λ r. and_then (or_end l x (and_then r (λ a. and_then (put_counted a.1 t vs) (λ b. Ok (sides_with a.0 b.0 chain b.1))))) after) p)

      pass_same : turn th G l st ≡ pass_turn th G l x g rest → pass_turn_trying th G (unsplit l) x g rest ≡ pass_turn th G l x g rest
      pass_same e =
          first_same (swept_trying f G L [] s (swept_with s []) x.budget)
          (swept_as f G L (lemmas_bare (is_hidden_lemma th) 0 x.earlier bare) [] s (swept_with s []) x.budget) e

      -- ---- Join

      join_same : (o : Option (List HypothesisUse)) → turn th G l st ≡ join_turn th G l x g rest o
          → join_turn_trying th G (unsplit l) x g rest o ≡ join_turn th G l x g rest o
      join_same None e = pass_same e
      join_same (Some ws) e = go (or_end l x (put_all s ws)) e
        where
          why : WhyOf Tree
          why = Same_why (chained x.chain (chain_with (map use_link ws) []))

          go : (r : Result Tree Ending) → turn th G l st ≡ and_then r (λ u. reduced th l x rest why)
              → and_then r (λ u. goal_reduced th l x rest why) ≡ and_then r (λ u. reduced th l x rest why)
          go (Ok u) z = reduced_same x rest why z
          go (Err y) z = refl

      pub joins_same : HaveNoConditions x.hypotheses → turn th G l st ≡ sides_turn th G l x g rest
          → sides_turn_trying th G (unsplit l) x g rest ≡ sides_turn th G l x g rest
      joins_same hyps e =
          ap (λ w. worked l x w (λ o y. join_turn_trying th G (unsplit l) y g rest o)) (joined_same f G x.hypotheses hyps [] s t x.budget)
          ∙ join_same (joined G x.hypotheses [] s t) e

  -- ---- one goal

  goal_same : (o g : Goal) (rest : List Goal) → Held th G blocks st o g rest → turn th G l st ≡ goal_turn th G l st g rest
      → goal_turn_trying th G (unsplit l) st g rest ≡ goal_turn th G l st g rest
  goal_same o g rest h e =
      ap (λ E. goal_turn_trying th G (unsplit l) st (goal E g.left g.right) rest) h.fine.bare
      ∙ (λ i. and_then (or_end l st (sides_same th R un [] g.left g.right st.budget i)) next_trying)
      ∙ go (normal_sides th R [] g.left g.right st.budget) refl e
    where
      R : List Rule
      R = block_rules th st.earlier

      un : AreUnconditional (block_rules th st.earlier)
      un = unconditional_here th wf none G l blocks st (o ∷ rest) h.ran

      next_trying : Sides → Result Standing Ending
      next_trying n = sides_turn_trying th G (unsplit l) (with_sides st rest n) (goal [] n.left n.right) rest

      next : Sides → Result Standing Ending
      next n = sides_turn th G l (with_sides st rest n) (goal [] n.left n.right) rest

      go : (r : Result Sides Stop) → normal_sides th R [] g.left g.right st.budget ≡ r → turn th G l st ≡ and_then (or_end l st r) next
          → and_then (or_end l st r) next_trying ≡ and_then (or_end l st r) next
      go (Err y) k z = refl
      go (Ok n) k z =
          let led = normal_sides_led th wf (bound st) (omega arith) G st.hypotheses R (rules_here th wf none G l blocks st (o ∷ rest) h.ran) un [] tt g.left g.right
          st.budget n h.fine.left h.fine.right k in
          let held = sides_held th wf none G l blocks st o g rest st.budget n h led in
          let x : Standing = with_sides st rest n in
          let deep : chain_is_deep th st.hypotheses x.chain ≡ is_deep_chain th st.hypotheses x.chain
          = λ i. deep_links th none G st.hypotheses h.ran.bare [] x.chain.left o.left n.left held.left i
          || deep_links th none G st.hypotheses h.ran.bare [] x.chain.right o.right n.right held.right i in
          joins_same x un deep n.left n.right rest (bare_here th wf none G l blocks st (o ∷ rest) h.ran) h.ran.bare z

  pub turn_same : turn_trying th G (unsplit l) st ≡ turn th G l st
  turn_same = go st.queue good refl
    where
      go : (Q : List Goal) → Opened th G blocks st Q → turn th G l st ≡ turn_at th G l st Q → turn_trying_at th G (unsplit l) st Q ≡ turn_at th G l st Q
      go [] o e = refl
      go (g ∷ rest) o e = goal_same o.0 g rest o.1 e
