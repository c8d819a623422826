-- The steps and the blocks of a proof with numbers for its terms fit its table.
use Rattle.std.proofs.Common.{◌≡◌, ◌≢◌, ℕ, zero, suc, ◌+◌, ◌-◌, ◌<◌, length, List, [], ◌∷◌, ◌++◌, map, refl, ap, sym, subst, ◌∙◌, arith}
use Rattle.std.specs.List.{AllByRecursion}
use Rattle.std.proofs.lemmas.List.{length-map}
use Rattle.circ_term.specs.Tree.{Tree, sort_of}
use Rattle.circ_theory.specs.Rewriting.{named}
use Rattle.circ_theory.specs.Goal.{Goal}
use Rattle.circ_theory.specs.Theory.{Theory, Pair, goal}
use Rattle.circ_proof.specs.Plain.{LinkOf, ChainsOf, Equation_link, Hypothesis_link, Assumption_link, Content_link, no_chain, ChainOf, WhyOf, WhysOf, Same_why, Split_why, no_why, more_whys, map_link, map_chains, map_chain, map_why, map_whys}
use Rattle.circ_proof.specs.Link.{AllOfLink, AllOfLinks}
use Rattle.circ_proof.specs.Justified.{AllOfChain, AllOfWhy, AllOfWhys}
use Rattle.circ_proof.specs.Table.{number_in}
use Rattle.circ_proof.specs.Rules.{ProofStep, Simplify, Reduce, Derive, Cases, Done, map_step, AllOfStep}
use Rattle.circ_proof.specs.Counting.{why_count}
use Rattle.circ_proof.specs.Proof.{IsLinkFor, AreChainsFor, AreLinksFor, IsChainFor, IsWhyFor, AreWhysFor, IsStepFor, IsEnded, pair_at, goal_at, IsConditionFor, IsNameFor, IsBlockFor, IsPlainLink, IsPlainChain, IsPlainWhy, ArePlainWhys, IsPlainStep, IsPlainBlock, steps_in}
use Rattle.circ_proof.specs.Nesting.{nesting_limit}
use Rattle.circ_plain_search.specs.Search.{ProvedBlock}
use Rattle.circ_plain_search.specs.Numbering.{pair_name, goal_name, numbered_links, numbered_steps, numbered_block}
use Rattle.circ_plain_search.proofs.Splits.{FitsIn, AllFitIn}
use Rattle.circ_plain_search.proofs.Runs.{IsOpenStep, EndsDone, all_steps}
use Rattle.circ_plain_search.proofs.Tables.{Has, number_named, number_less}
use Rattle.circ_plain_search.proofs.Ranges.{IsRanged, AreRanged, IsRangedChain, IsRangedWhy, AreRangedWhys}
use Rattle.circ_plain_search.proofs.Steps.{IsRangedStep, FitsStep}

module _ (table : List Tree) where
  abbrev number : Tree → ℕ
  number t = number_in table t

  terms_for : (ts : List Tree) → AllByRecursion (Has table) ts → AllByRecursion (λ n. n < length table) (map (number_in table) ts)
  terms_for [] a = tt
  terms_for (t ∷ ts) a = (number_less table t a.0, terms_for ts a.1)

  none_for : (d : ℕ) (cs : ChainsOf Tree) → cs ≡ no_chain → AreChainsFor (length table) d (map_chains (number_in table) cs)
  none_for d cs e = let P : ChainsOf Tree → Type 0 = λ x. AreChainsFor (length table) d (map_chains (number_in table) x) in subst P (sym e) tt

  link_for : (l : LinkOf Tree) → IsRanged l → AllOfLink (Has table) l → IsLinkFor (length table) nesting_limit (map_link (number_in table) l)
  link_for (Equation_link n w p ts cs) r a = (r.0, r.1, terms_for ts a.0, none_for nesting_limit cs r.2)
  link_for (Hypothesis_link n w p ts cs) r a = (r.0, r.1, terms_for ts a.0, none_for nesting_limit cs r.2)
  link_for (Assumption_link n w p) r a = r
  link_for (Content_link f p t) r a = (r.0, r.1, number_less table t a)

  pub links_for : (ls : List (LinkOf Tree)) → AreRanged ls → AllOfLinks (Has table) ls → AreLinksFor (length table) (numbered_links table ls)
  links_for [] r a = tt
  links_for (l ∷ ls) r a = (link_for l r.0 a.0, links_for ls r.1 a.1)

  chain_for : (c : ChainOf Tree) → IsRangedChain c → AllOfChain (Has table) c → IsChainFor (length table) (map_chain (number_in table) c)
  chain_for c r a = (links_for c.left r.0 a.0, links_for c.right r.1 a.1)

  count_same : (ws : WhysOf Tree) → why_count (map_whys (number_in table) ws) ≡ why_count ws
  count_same no_why = refl
  count_same (more_whys w ws) = ap (λ n. n + 1) (count_same ws)

  mutual
    why_for : (n : ℕ) (w : WhyOf Tree) → FitsIn n w → IsRangedWhy w → AllOfWhy (Has table) w → IsWhyFor (length table) n (map_why (number_in table) w)
    why_for n (Same_why c) f r a = chain_for c r a
    why_for zero (Split_why c u ws) f r a = absurd f
    why_for (suc n) (Split_why c u ws) f r a =
        let P : ℕ → Type 0 = λ k. AreWhysFor (length table) k (map_whys (number_in table) ws) in
        let e : n ≡ suc n - 1 = omega arith in
        let same = count_same ws in
        let few = r.1 in
        (chain_for c r.0 a.0, number_less table u a.1, omega arith, omega (arith, same, few), subst P e (whys_for n ws f r.2 a.2))

    whys_for : (n : ℕ) (ws : WhysOf Tree) → AllFitIn n ws → AreRangedWhys ws → AllOfWhys (Has table) ws
        → AreWhysFor (length table) n (map_whys (number_in table) ws)
    whys_for n no_why f r a = tt
    whys_for n (more_whys w ws) f r a = (why_for n w f.0 r.0 a.0, whys_for n ws f.1 r.1 a.1)

  step_for : (s : ProofStep Tree) → FitsStep s → IsRangedStep s → AllOfStep (Has table) s → IsStepFor (length table) (map_step (number_in table) s)
  step_for (Simplify c) f r a = chain_for c r a
  step_for (Reduce w) f r a = why_for 8 w f r a
  step_for Derive f r a = tt
  step_for (Cases u) f r a = absurd f
  step_for Done f r a = tt

  steps_for : (ss : List (ProofStep Tree)) → AllByRecursion FitsStep ss → AllByRecursion IsRangedStep ss → AllByRecursion (AllOfStep (Has table)) ss
      → AllByRecursion (IsStepFor (length table)) (numbered_steps table ss)
  steps_for [] f r a = tt
  steps_for (s ∷ ss) f r a = (step_for s f.0 r.0 a.0, steps_for ss f.1 r.1 a.1)

  -- ---- Done is the last step

  not_done : (s : ProofStep Tree) → IsOpenStep s → map_step (number_in table) s ≢ Done
  not_done (Simplify c) o e = absurd (cc)
  not_done (Reduce w) o e = absurd (cc)
  not_done Derive o e = absurd (cc)
  not_done (Cases u) o e = absurd o
  not_done Done o e = absurd o

  last_done : (xs : List (ProofStep Tree)) → AllByRecursion IsOpenStep xs → IsEnded (numbered_steps table (xs ++ Done ∷ []))
  last_done [] a = refl
  last_done (x ∷ []) a = (not_done x a.0, refl)
  last_done (x ∷ y ∷ ys) a = (not_done x a.0, last_done (y ∷ ys) a.1)

  ended_for : (b : ProvedBlock) → EndsDone b → IsEnded (numbered_steps table b.steps)
  ended_for b e = let P : List (ProofStep Tree) → Type 0 = λ ss. IsEnded (numbered_steps table ss) in subst P (sym e.1) (last_done e.0 e.2)

  -- ---- goals

  -- the terms of a goal, which has no conditions, are in the table
  pub record HasGoal (g : Goal) : Type 0 where
    pub left : Has table g.left
    pub right : Has table g.right
    pub bare : g.conds ≡ []

  goal_named : (g : Goal) → HasGoal g → g ≡ goal_at table (goal_name table g)
  goal_named g h =
      ap (λ E. goal E g.left g.right) (h.bare ∙ sym (ap (λ E. map (pair_at table) (map (pair_name table) E)) h.bare))
      ∙ ap (λ x. goal (map (pair_at table) (map (pair_name table) g.conds)) x g.right) (sym (number_named table g.left h.left))
      ∙ ap (goal (map (pair_at table) (map (pair_name table) g.conds)) (named table (number g.left))) (sym (number_named table g.right h.right))

  names_for : (th : Theory) (gs : List Goal) → AllByRecursion HasGoal gs → AllByRecursion (λ g. sort_of g.right ≡ sort_of g.left) gs
      → AllByRecursion (IsNameFor th table) (map (goal_name table) gs)
  names_for th [] h s = tt
  names_for th (g ∷ gs) h s =
      let P : List Pair → Type 0 = λ E. AllByRecursion (IsConditionFor th table) (map (pair_name table) E) in
      let long = ap (λ E. length (map (pair_name table) E)) h.0.bare in (
        record {
          left = number_less table g.left h.0.left;
          right = number_less table g.right h.0.right;
          same_sort = ap sort_of (number_named table g.right h.0.right) ∙ s.0 ∙ sym (ap sort_of (number_named table g.left h.0.left));
          conds = subst P (sym h.0.bare) tt;
          few_conds = omega (arith, long);
        },
        names_for th gs h.1 s.1,
      )

  goals_named : (gs : List Goal) → AllByRecursion HasGoal gs → gs ≡ map (goal_at table) (map (goal_name table) gs)
  goals_named [] h = refl
  goals_named (g ∷ gs) h = ap (λ x. x ∷ gs) (goal_named g h.0) ∙ ap (λ xs. goal_at table (goal_name table g) ∷ xs) (goals_named gs h.1)

  some_name : (gs : List Goal) → gs ≢ [] → map (goal_name table) gs ≢ []
  some_name [] n e = n refl
  some_name (g ∷ gs) n e = absurd (cc)

  -- ---- blocks

  -- what is known of a block that is proved
  pub record IsBlockHere (b : ProvedBlock) : Type 0 where
    pub some_goal : b.goals ≢ []
    pub goals : AllByRecursion HasGoal b.goals
    pub sorts : AllByRecursion (λ g. sort_of g.right ≡ sort_of g.left) b.goals
    pub fit : AllByRecursion FitsStep b.steps
    pub ranged : AllByRecursion IsRangedStep b.steps
    pub terms : AllByRecursion (AllOfStep (Has table)) b.steps
    pub ended : EndsDone b

  block_for : (th : Theory) (b : ProvedBlock) → IsBlockHere b → IsBlockFor th table (numbered_block table b)
  block_for th b h = record {
    some_goal = some_name b.goals h.some_goal;
    names = names_for th b.goals h.goals h.sorts;
    goals = goals_named b.goals h.goals;
    steps = steps_for b.steps h.fit h.ranged h.terms;
    ended = ended_for b h.ended;
  }

  pub blocks_for : (th : Theory) (bs : List ProvedBlock) → AllByRecursion IsBlockHere bs
      → AllByRecursion (IsBlockFor th table) (map (numbered_block table) bs)
  blocks_for th [] a = tt
  blocks_for th (b ∷ bs) a = (block_for th b a.0, blocks_for th bs a.1)

  -- ---- the proof has version 1

  link_plain : (l : LinkOf Tree) → IsRanged l → IsPlainLink (map_link (number_in table) l)
  link_plain (Equation_link n w p ts cs) r = ap (map_chains (number_in table)) r.2
  link_plain (Hypothesis_link n w p ts cs) r = ap (map_chains (number_in table)) r.2
  link_plain (Assumption_link n w p) r = refl
  link_plain (Content_link f p t) r = refl

  pub links_plain : (ls : List (LinkOf Tree)) → AreRanged ls → AllByRecursion IsPlainLink (numbered_links table ls)
  links_plain [] r = tt
  links_plain (l ∷ ls) r = (link_plain l r.0, links_plain ls r.1)

  chain_plain : (c : ChainOf Tree) → IsRangedChain c → IsPlainChain (map_chain (number_in table) c)
  chain_plain c r = (links_plain c.left r.0, links_plain c.right r.1)

  mutual
    why_plain : (w : WhyOf Tree) → IsRangedWhy w → IsPlainWhy (map_why (number_in table) w)
    why_plain (Same_why c) r = chain_plain c r
    why_plain (Split_why c u ws) r = (chain_plain c r.0, whys_plain ws r.2)

    whys_plain : (ws : WhysOf Tree) → AreRangedWhys ws → ArePlainWhys (map_whys (number_in table) ws)
    whys_plain no_why r = tt
    whys_plain (more_whys w ws) r = (why_plain w r.0, whys_plain ws r.1)

  step_plain : (s : ProofStep Tree) → IsRangedStep s → IsPlainStep (map_step (number_in table) s)
  step_plain (Simplify c) r = chain_plain c r
  step_plain (Reduce w) r = why_plain w r
  step_plain Derive r = tt
  step_plain (Cases u) r = r
  step_plain Done r = tt

  steps_plain : (ss : List (ProofStep Tree)) → AllByRecursion IsRangedStep ss → AllByRecursion IsPlainStep (numbered_steps table ss)
  steps_plain [] r = tt
  steps_plain (s ∷ ss) r = (step_plain s r.0, steps_plain ss r.1)

  names_plain : (gs : List Goal) → AllByRecursion HasGoal gs → AllByRecursion (λ n. n.conds ≡ []) (map (goal_name table) gs)
  names_plain [] h = tt
  names_plain (g ∷ gs) h = (ap (map (pair_name table)) h.0.bare, names_plain gs h.1)

  pub blocks_plain : (bs : List ProvedBlock) → AllByRecursion IsBlockHere bs → AllByRecursion IsPlainBlock (map (numbered_block table) bs)
  blocks_plain [] a = tt
  blocks_plain (b ∷ bs) a =
      (record { names = names_plain b.goals a.0.goals; steps = steps_plain b.steps a.0.ranged }, blocks_plain bs a.1)

  pub count_for : (bs : List ProvedBlock) → steps_in (map (numbered_block table) bs) ≡ all_steps bs
  count_for [] = refl
  count_for (b ∷ bs) =
      let here = length-map b.steps (map_step (number_in table)) in
      let rest = count_for bs in
      omega (arith, here, rest)

  pub goals_for : (bs : List ProvedBlock) → map (λ b. b.goals) (map (numbered_block table) bs) ≡ map (λ b. b.goals) bs
  goals_for [] = refl
  goals_for (b ∷ bs) = ap (λ x. b.goals ∷ x) (goals_for bs)
