-- The steps and the blocks of a proof with numbers for its terms fit its table.
use Rattle.circ_plain_search.proofs.Runs.{half, all_steps}
use Rattle.std.proofs.Common.{◌≡◌, ◌≢◌, ℕ, zero, suc, ◌+◌, ◌-◌, ◌<◌, length, List, [], ◌∷◌, ◌++◌, map, refl, ap, sym, subst, ◌∙◌, arith}
use Rattle.std.specs.List.{AllByRecursion}
use Rattle.std.proofs.lemmas.List.{length-map}
use Rattle.circ_term.specs.Tree.{Tree, sort_of}
use Rattle.circ_theory.specs.Rewriting.{named}
use Rattle.circ_theory.specs.Goal.{Goal}
use Rattle.circ_theory.specs.Theory.{goal, Theory, Pair, pair_with, IsVisible}
use Rattle.circ_proof.specs.Plain.{LinkOf, Equation_link, Hypothesis_link, Assumption_link, Content_link, ChainOf, WhyOf, WhysOf, Same_why, Split_why, no_why, more_whys, map_link, map_chain, map_why, map_whys, LinksOf, ChainsOf, no_link, more_links, no_chain, more_chains, map_row, map_chains}
use Rattle.circ_proof.specs.Link.{AllOfLink, AllOfLinks, AllOfRow, AllOfChains}
use Rattle.circ_proof.specs.Justified.{AllOfChain, AllOfWhy, AllOfWhys}
use Rattle.circ_proof.specs.Table.{number_in}
use Rattle.circ_proof.specs.Rules.{ProofStep, Simplify, Reduce, Derive, Done, map_step, AllOfStep, Cases}
use Rattle.circ_proof.specs.Counting.{why_count}
use Rattle.circ_proof.specs.Proof.{IsLinkFor, AreLinksFor, IsChainFor, IsWhyFor, AreWhysFor, IsStepFor, IsEnded, goal_at, IsNameFor, IsBlockFor, steps_in, IsRowFor, AreChainsFor, IsConditionFor, pair_at}
use Rattle.circ_plain_search.specs.Search.{ProvedBlock}
use Rattle.circ_plain_search.specs.Numbering.{goal_name, numbered_links, numbered_steps, numbered_block, pair_name}
use Rattle.circ_conditional_search.proofs.Splits.{FitsIn, AllFitIn}
use Rattle.circ_conditional_search.proofs.Runs.{IsOpenStep, EndsDone}
use Rattle.circ_plain_search.proofs.Tables.{Has, number_named, number_less}
use Rattle.circ_conditional_search.proofs.Ranges.{IsRanged, AreRanged, IsRangedChain, IsRangedWhy, AreRangedWhys, IsRangedRow, AreRangedChains}
use Rattle.circ_conditional_search.proofs.Steps.{IsRangedStep, FitsStep}
use Rattle.circ_conditional_search.proofs.Nesting.{NestsIn, RowNestsIn, ChainsNestIn, AllNestIn, ChainNests}
use Rattle.circ_conditional_search.proofs.Derived.{FineCond, FineGoals}

module _ (table : List Tree) where
  abbrev number : Tree → ℕ
  number t = number_in table t

  terms_for : (ts : List Tree) → AllByRecursion (Has table) ts → AllByRecursion (λ n. n < length table) (map (number_in table) ts)
  terms_for [] a = tt
  terms_for (t ∷ ts) a = (number_less table t a.0, terms_for ts a.1)

  mutual
    link_for : (d : ℕ) (l : LinkOf Tree) → NestsIn d l → IsRanged l → AllOfLink (Has table) l → IsLinkFor (length table) d (map_link (number_in table) l)
    link_for d (Equation_link n w p ts cs) h r a = (r.0, r.1, terms_for ts a.0, chains_for d cs h r.2 a.1)
    link_for d (Hypothesis_link n w p ts cs) h r a = (r.0, r.1, terms_for ts a.0, chains_for d cs h r.2 a.1)
    link_for d (Assumption_link n w p) h r a = r
    link_for d (Content_link f p t) h r a = (r.0, r.1, number_less table t a)

    row_for : (d : ℕ) (ls : LinksOf Tree) → RowNestsIn d ls → IsRangedRow ls → AllOfRow (Has table) ls → IsRowFor (length table) d (map_row (number_in table) ls)
    row_for d no_link h r a = tt
    row_for d (more_links l ls) h r a = (link_for d l h.0 r.0 a.0, row_for d ls h.1 r.1 a.1)

    chains_for : (d : ℕ) (cs : ChainsOf Tree) → ChainsNestIn d cs → AreRangedChains cs → AllOfChains (Has table) cs
        → AreChainsFor (length table) d (map_chains (number_in table) cs)
    chains_for d no_chain h r a = tt
    chains_for zero (more_chains x y cs) h r a = absurd h
    chains_for (suc d) (more_chains x y cs) h r a =
        let e : d ≡ suc d - 1 = omega arith in
        let P : ℕ → Type 0 = λ k. IsRowFor (length table) k (map_row (number_in table) x) in
        let Q : ℕ → Type 0 = λ k. IsRowFor (length table) k (map_row (number_in table) y) in
        (omega arith, subst P e (row_for d x h.0 r.0 a.0), subst Q e (row_for d y h.1 r.1 a.1), chains_for (suc d) cs h.2 r.2 a.2)

  pub links_for : (ls : List (LinkOf Tree)) → AllNestIn 8 ls → AreRanged ls → AllOfLinks (Has table) ls → AreLinksFor (length table) (numbered_links table ls)
  links_for [] h r a = tt
  links_for (l ∷ ls) h r a = (link_for 8 l h.0 r.0 a.0, links_for ls h.1 r.1 a.1)

  chain_for : (c : ChainOf Tree) → ChainNests c → IsRangedChain c → AllOfChain (Has table) c → IsChainFor (length table) (map_chain (number_in table) c)
  chain_for c h r a = (links_for c.left h.0 r.0 a.0, links_for c.right h.1 r.1 a.1)

  count_same : (ws : WhysOf Tree) → why_count (map_whys (number_in table) ws) ≡ why_count ws
  count_same no_why = refl
  count_same (more_whys w ws) = ap (λ n. n + 1) (count_same ws)

  mutual
    why_for : (n : ℕ) (w : WhyOf Tree) → FitsIn n w → IsRangedWhy w → AllOfWhy (Has table) w → IsWhyFor (length table) n (map_why (number_in table) w)
    why_for n (Same_why c) f r a = chain_for c f r a
    why_for zero (Split_why c u ws) f r a = absurd f
    why_for (suc n) (Split_why c u ws) f r a =
        let P : ℕ → Type 0 = λ k. AreWhysFor (length table) k (map_whys (number_in table) ws) in
        let e : n ≡ suc n - 1 = omega arith in
        let same = count_same ws in
        let few = r.1 in
        (chain_for c f.0 r.0 a.0, number_less table u a.1, omega arith, omega (arith, same, few), subst P e (whys_for n ws f.1 r.2 a.2))

    whys_for : (n : ℕ) (ws : WhysOf Tree) → AllFitIn n ws → AreRangedWhys ws → AllOfWhys (Has table) ws
        → AreWhysFor (length table) n (map_whys (number_in table) ws)
    whys_for n no_why f r a = tt
    whys_for n (more_whys w ws) f r a = (why_for n w f.0 r.0 a.0, whys_for n ws f.1 r.1 a.1)

  step_for : (s : ProofStep Tree) → FitsStep s → IsRangedStep s → AllOfStep (Has table) s → IsStepFor (length table) (map_step (number_in table) s)
  step_for (Simplify c) f r a = chain_for c f r a
  step_for (Reduce w) f r a = why_for 8 w f r a
  step_for Derive f r a = tt
  step_for (Cases u) f r a = number_less table u a
  step_for Done f r a = tt

  steps_for : (ss : List (ProofStep Tree)) → AllByRecursion FitsStep ss → AllByRecursion IsRangedStep ss → AllByRecursion (AllOfStep (Has table)) ss
      → AllByRecursion (IsStepFor (length table)) (numbered_steps table ss)
  steps_for [] f r a = tt
  steps_for (s ∷ ss) f r a = (step_for s f.0 r.0 a.0, steps_for ss f.1 r.1 a.1)

  -- ---- Done is the last step

  not_done : (s : ProofStep Tree) → IsOpenStep s → map_step (number_in table) s ≢ Done
  not_done (Simplify c) o e = absurd (cc)
  not_done (Reduce w) o e = absurd (cc)
  not_done Derive o e = absurd (cc)
  not_done (Cases u) o e = absurd (cc)
  not_done Done o e = absurd o

  last_done : (xs : List (ProofStep Tree)) → AllByRecursion IsOpenStep xs → IsEnded (numbered_steps table (xs ++ Done ∷ []))
  last_done [] a = refl
  last_done (x ∷ []) a = (not_done x a.0, refl)
  last_done (x ∷ y ∷ ys) a = (not_done x a.0, last_done (y ∷ ys) a.1)

  ended_for : (b : ProvedBlock) → EndsDone b → IsEnded (numbered_steps table b.steps)
  ended_for b e = let P : List (ProofStep Tree) → Type 0 = λ ss. IsEnded (numbered_steps table ss) in subst P (sym e.1) (last_done e.0 e.2)

  -- ---- goals

  abbrev pub HasPairs : List Pair → Type 0
  HasPairs ps = AllByRecursion (λ p. Has table p.left × Has table p.right) ps

  pub record HasGoal (g : Goal) : Type 0 where
    pub left : Has table g.left
    pub right : Has table g.right
    pub conds : HasPairs g.conds

  pairs_named : (ps : List Pair) → HasPairs ps → map (pair_at table) (map (pair_name table) ps) ≡ ps
  pairs_named [] h = refl
  pairs_named (p ∷ ps) h =
      ap (λ x. pair_with x (named table (number p.right)) ∷ map (pair_at table) (map (pair_name table) ps)) (number_named table p.left h.0.0)
      ∙ ap (λ x. pair_with p.left x ∷ map (pair_at table) (map (pair_name table) ps)) (number_named table p.right h.0.1)
      ∙ ap (λ x. p ∷ x) (pairs_named ps h.1)

  goal_named : (g : Goal) → HasGoal g → g ≡ goal_at table (goal_name table g)
  goal_named g h =
      sym (ap (λ x. goal x (named table (number g.left)) (named table (number g.right))) (pairs_named g.conds h.conds)
      ∙ ap (λ x. goal g.conds x (named table (number g.right))) (number_named table g.left h.left)
      ∙ ap (goal g.conds g.left) (number_named table g.right h.right))

  module _ (th : Theory) (m : ℕ) where
    conds_for : (ps : List Pair) → HasPairs ps → AllByRecursion (FineCond th m) ps → AllByRecursion (IsConditionFor th table) (map (pair_name table) ps)
    conds_for [] h f = tt
    conds_for (p ∷ ps) h f = (
      record {
        left = number_less table p.left h.0.0;
        right = number_less table p.right h.0.1;
        same_sort = ap sort_of (number_named table p.right h.0.1) ∙ f.0.same_sort ∙ sym (ap sort_of (number_named table p.left h.0.0));
        visible = subst (λ x. IsVisible th (sort_of x)) (sym (number_named table p.left h.0.0)) f.0.visible;
      },
      conds_for ps h.1 f.1,
    )

    names_for : (gs : List Goal) → AllByRecursion HasGoal gs → FineGoals th m gs → AllByRecursion (IsNameFor th table) (map (goal_name table) gs)
    names_for [] h s = tt
    names_for (g ∷ gs) h s =
        let long = length-map g.conds (pair_name table) in
        let few = s.0.few in (
          record {
            left = number_less table g.left h.0.left;
            right = number_less table g.right h.0.right;
            same_sort = ap sort_of (number_named table g.right h.0.right) ∙ s.0.same_sort ∙ sym (ap sort_of (number_named table g.left h.0.left));
            conds = conds_for g.conds h.0.conds s.0.conds;
            few_conds = omega (arith, long, few);
          },
          names_for gs h.1 s.1,
        )

  goals_named : (gs : List Goal) → AllByRecursion HasGoal gs → gs ≡ map (goal_at table) (map (goal_name table) gs)
  goals_named [] h = refl
  goals_named (g ∷ gs) h = ap (λ x. x ∷ gs) (goal_named g h.0) ∙ ap (λ xs. goal_at table (goal_name table g) ∷ xs) (goals_named gs h.1)

  some_name : (gs : List Goal) → gs ≢ [] → map (goal_name table) gs ≢ []
  some_name [] n e = n refl
  some_name (g ∷ gs) n e = absurd (cc)

  -- ---- blocks

  -- what is known of a block that is proved
  pub record IsBlockHere (th : Theory) (b : ProvedBlock) : Type 0 where
    pub some_goal : b.goals ≢ []
    pub goals : AllByRecursion HasGoal b.goals
    pub fine : FineGoals th half b.goals
    pub fit : AllByRecursion FitsStep b.steps
    pub ranged : AllByRecursion IsRangedStep b.steps
    pub terms : AllByRecursion (AllOfStep (Has table)) b.steps
    pub ended : EndsDone b

  block_for : (th : Theory) (b : ProvedBlock) → IsBlockHere th b → IsBlockFor th table (numbered_block table b)
  block_for th b h = record {
    some_goal = some_name b.goals h.some_goal;
    names = names_for th half b.goals h.goals h.fine;
    goals = goals_named b.goals h.goals;
    steps = steps_for b.steps h.fit h.ranged h.terms;
    ended = ended_for b h.ended;
  }

  pub blocks_for : (th : Theory) (bs : List ProvedBlock) → AllByRecursion (IsBlockHere th) bs → AllByRecursion (IsBlockFor th table) (map (numbered_block table) bs)
  blocks_for th [] a = tt
  blocks_for th (b ∷ bs) a = (block_for th b a.0, blocks_for th bs a.1)

  pub count_for : (bs : List ProvedBlock) → steps_in (map (numbered_block table) bs) ≡ all_steps bs
  count_for [] = refl
  count_for (b ∷ bs) =
      let here = length-map b.steps (map_step (number_in table)) in
      let rest = count_for bs in
      omega (arith, here, rest)

  pub goals_for : (bs : List ProvedBlock) → map (λ b. b.goals) (map (numbered_block table) bs) ≡ map (λ b. b.goals) bs
  goals_for [] = refl
  goals_for (b ∷ bs) = ap (λ x. b.goals ∷ x) (goals_for bs)
