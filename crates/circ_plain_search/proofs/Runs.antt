-- What the search has recorded so far is a run of the rules, and its terms are fine.
use Rattle.std.proofs.Common.{◌≡◌, ℕ, ◌+◌, ◌*◌, ◌≤◌, ◌<◌, Bool, true, false, ◌||◌, if◌then◌else◌, List, [], ◌∷◌, ◌++◌, map, flat_map, length, Ok, Err, refl, ap, sym, subst, ◌∙◌, arith, append_assoc, append-nil, length-append}
use Rattle.std.specs.Prelude.{nat_le}
use Rattle.std.specs.List.{AllByRecursion}
use Rattle.circ_term.specs.Tree.{Tree}
use Rattle.circ_theory.specs.Theory.{Theory, Pair, HasNoConditions}
use Rattle.circ_theory.specs.Goal.{Goal}
use Rattle.circ_theory.proofs.Lists.{all_push}
use Rattle.circ_special.specs.declared.place.Place.{Place}
use Rattle.circ_proof.specs.Plain.{ChainOf}
use Rattle.circ_proof.specs.Goals.{AreSortedGoals}
use Rattle.circ_proof.specs.Runs.{Runs}
use Rattle.circ_proof.specs.Link.{setting, Leads}
use Rattle.circ_proof.specs.Justified.{AllOfChain}
use Rattle.circ_proof.specs.Rules.{State, state, ProofStep, Simplify, Reduce, Derive, Cases, Done, StepOf, StepsOf}
use Rattle.circ_proof.specs.Proof.{step_limit}
use Rattle.circ_plain_search.specs.BlockRules.{HaveNoConditions}
use Rattle.circ_plain_search.specs.Search.{Limits, ProvedBlock, proved_block, Standing, no_links, spent, record_step, is_deep_step}
use Rattle.circ_plain_search.specs.Numbering.{side_terms, goal_terms, step_terms, block_terms}
use Rattle.circ_plain_search.proofs.Terms.{Fine, FineTerms, fine_more}
use Rattle.circ_plain_search.proofs.Led.{all_append, all_parts, runs_append}
use Rattle.circ_plain_search.proofs.Rules.{BeginsWith}
use Rattle.circ_plain_search.proofs.Uses.{same_Ok, map_append}
use Rattle.circ_plain_search.proofs.Splits.{FitsIn}
use Rattle.circ_plain_search.proofs.Deep.{or_false, flat_step}
use Rattle.circ_plain_search.proofs.Derived.{FineGoal, FineGoals}

-- above each variable's number that a proof can hold, and that the goals have
abbrev pub most : ℕ
most = 4294967296

abbrev pub half : ℕ
half = 2147483648

-- above those in the queue, after so many Derive steps
abbrev pub bound : Standing → ℕ
bound st = half + 8 * st.derives

-- ---- steps

-- at most eight splits stand inside one another, no step is by cases, and Done has not been made
abbrev pub IsOpenStep : ProofStep Tree → Type 0
IsOpenStep (Simplify c) = Unit {0}
IsOpenStep (Reduce w) = FitsIn 8 w
IsOpenStep Derive = Unit {0}
IsOpenStep (Cases u) = ⊥
IsOpenStep Done = ⊥

-- the last step of a block and no other is Done
abbrev pub EndsDone : ProvedBlock → Type 0
EndsDone b = (xs : List (ProofStep Tree)) × (b.steps ≡ xs ++ Done ∷ []) × AllByRecursion IsOpenStep xs

abbrev pub all_steps : List ProvedBlock → ℕ
all_steps [] = 0
all_steps (b ∷ bs) = length b.steps + all_steps bs

pub steps_more : (bs : List ProvedBlock) (b : ProvedBlock) → all_steps (bs ++ b ∷ []) ≡ all_steps bs + length b.steps
steps_more [] b = omega arith
steps_more (d ∷ bs) b = let r = steps_more bs b in omega (arith, r)

-- ---- runs

abbrev pub goals_of : List ProvedBlock → List Goal
goals_of bs = flat_map (λ b. b.goals) bs

-- Each block begins with the goals of the blocks before as hypotheses and with its own goals, and its steps leave no goal.
abbrev pub BlocksRun : Theory → List Place → List Goal → List ProvedBlock → Type 0
BlocksRun th G E [] = Unit {0}
BlocksRun th G E (b ∷ bs) = ((K : List Goal) × StepsOf th G b.steps (state E b.goals) (state K [])) × BlocksRun th G (E ++ b.goals) bs

-- under the set, and under none where nothing deep was recorded
pub record BlocksBoth (th : Theory) (G : List Place) (deep : Bool) (bs : List ProvedBlock) : Type 0 where
  pub under : BlocksRun th G [] bs
  pub plain : deep ≡ false → BlocksRun th [] [] bs

pub record RunBoth (th : Theory) (G : List Place) (deep : Bool) (a : State) (xs : List (ProofStep Tree)) (b : State) : Type 0 where
  pub under : StepsOf th G xs a b
  pub plain : deep ≡ false → StepsOf th [] xs a b

run_more : (th : Theory) → HasNoConditions th → (G : List Place) (deep : Bool) (a : State) (xs : List (ProofStep Tree)) (b : State) (x : ProofStep Tree)
    (c : State) → HaveNoConditions b.hypotheses → RunBoth th G deep a xs b → StepOf th G x b c → RunBoth th G (deep || is_deep_step th b.hypotheses x) a (xs ++ x ∷ []) c
run_more th none G deep a xs b x c bare r s = record {
  under = runs_append (StepOf th G) xs (x ∷ []) a b c r.under (c, s, refl);
  plain = λ e.
      let p = or_false deep (is_deep_step th b.hypotheses x) e in
      runs_append (StepOf th []) xs (x ∷ []) a b c (r.plain p.0) (c, flat_step th none G x b c bare s p.1, refl);
}

blocks_later : (th : Theory) (G : List Place) (deep more : Bool) (bs : List ProvedBlock) → BlocksBoth th G deep bs → BlocksBoth th G (deep || more) bs
blocks_later th G deep more bs b = record { under = b.under; plain = λ e. b.plain (or_false deep more e).0 }

blocks_more : (th : Theory) (G : List Place) (bs : List ProvedBlock) (b : ProvedBlock) (E : List Goal) → BlocksRun th G E bs
    → ((K : List Goal) × StepsOf th G b.steps (state (E ++ goals_of bs) b.goals) (state K [])) → BlocksRun th G E (bs ++ b ∷ [])
blocks_more th G [] b E a r =
    let P : List Goal → Type 0 = λ h. (K : List Goal) × StepsOf th G b.steps (state h b.goals) (state K []) in (subst P (append-nil E) r, tt)
blocks_more th G (d ∷ bs) b E a r =
    let P : List Goal → Type 0 = λ h. (K : List Goal) × StepsOf th G b.steps (state h b.goals) (state K []) in
    (a.0, blocks_more th G bs b (E ++ d.goals) a.1 (subst P (sym (append_assoc E d.goals (goals_of bs))) r))

goals_more : (bs : List ProvedBlock) (b : ProvedBlock) → goals_of (bs ++ b ∷ []) ≡ goals_of bs ++ b.goals
goals_more [] b = append-nil b.goals
goals_more (d ∷ bs) b = ap (λ r. d.goals ++ r) (goals_more bs b) ∙ sym (append_assoc d.goals (goals_of bs) b.goals)

abbrev pub block_goals : List ProvedBlock → List (List Goal)
block_goals bs = map (λ b. b.goals) bs

block_goals_more : (bs : List ProvedBlock) (b : ProvedBlock) (rest : List (List Goal)) → block_goals (bs ++ b ∷ []) ++ rest ≡ block_goals bs ++ b.goals ∷ rest
block_goals_more bs b rest = ap (λ x. x ++ rest) (map_append (λ d. d.goals) bs (b ∷ [])) ∙ append_assoc (block_goals bs) (b.goals ∷ []) rest

-- ---- what is known of a search in the midst of a block

pub record Ran (th : Theory) (G : List Place) (blocks : List (List Goal)) (st : Standing) (Q : List Goal) : Type 0 where
  pub finished : BlocksBoth th G st.deep st.finished
  pub earlier : st.earlier ≡ goals_of st.finished
  pub all : block_goals st.finished ++ st.goals ∷ st.later ≡ blocks
  pub begins : BeginsWith st.hypotheses st.earlier
  pub sorted : AreSortedGoals th st.hypotheses
  pub bare : HaveNoConditions st.hypotheses
  pub run : RunBoth th G st.deep (state st.earlier st.goals) st.steps (state st.hypotheses Q)
  pub unfinished : AllByRecursion IsOpenStep st.steps
  pub ended : AllByRecursion EndsDone st.finished
  pub counted : all_steps st.finished + length st.steps ≡ st.made
  pub small : st.made ≤ step_limit
  pub few : st.derives ≤ st.made
  pub taken : st.taken ≤ length st.steps
  pub finished_terms : FineTerms th most (flat_map block_terms st.finished)
  pub goals : FineGoals th half st.goals
  pub later : AllByRecursion (FineGoals th half) st.later
  pub terms : FineTerms th most (flat_map step_terms st.steps)

-- the state after a recorded step
abbrev pub after_step : Theory → Standing → ProofStep Tree → Standing
after_step th st x = record st { steps = st.steps ++ x ∷ []; made = st.made + 1; deep = st.deep || is_deep_step th st.hypotheses x }

pub recorded : (th : Theory) (l : Limits) (st : Standing) (x : ProofStep Tree) (y : Standing) → record_step th l st x ≡ Ok y → after_step th st x ≡ y
recorded th l st x y e = go (nat_le step_limit st.made) e
  where
    go : (b : Bool) → (if b then Err (spent l st) else Ok (after_step th st x)) ≡ Ok y → after_step th st x ≡ y
    go true z = absurd (cc)
    go false z = same_Ok (after_step th st x) y z

not_above : (m n : ℕ) → nat_le m n ≡ false → n < m
not_above m n e = grind arith

pub recorded_room : (th : Theory) (l : Limits) (st : Standing) (x : ProofStep Tree) (y : Standing) → record_step th l st x ≡ Ok y → st.made < step_limit
recorded_room th l st x y e = go (nat_le step_limit st.made) refl e
  where
    go : (b : Bool) → nat_le step_limit st.made ≡ b → (if b then Err (spent l st) else Ok (after_step th st x)) ≡ Ok y → st.made < step_limit
    go true k z = absurd (cc)
    go false k z = not_above step_limit st.made k

steps_terms_more : (xs : List (ProofStep Tree)) (x : ProofStep Tree) (th : Theory) → FineTerms th most (flat_map step_terms xs) → FineTerms th most (step_terms x)
    → FineTerms th most (flat_map step_terms (xs ++ x ∷ []))
steps_terms_more [] x th a f = all_append (Fine th most) (step_terms x) [] f tt
steps_terms_more (y ∷ xs) x th a f =
    let p = all_parts (Fine th most) (step_terms y) (flat_map step_terms xs) a in
    all_append (Fine th most) (step_terms y) (flat_map step_terms (xs ++ x ∷ [])) p.0 (steps_terms_more xs x th p.1 f)

-- a step more, whatever else changes
pub ran_more : (th : Theory) → HasNoConditions th → (G : List Place) (blocks : List (List Goal)) (st : Standing) (Q : List Goal) (x : ProofStep Tree) (L S queue : List Goal)
    (chain : ChainOf Tree) (taken budget derives : ℕ) → Ran th G blocks st Q → StepOf th G x (state st.hypotheses Q) (state L S) → IsOpenStep x
    → FineTerms th most (step_terms x) → st.made < step_limit → BeginsWith L st.earlier → AreSortedGoals th L → HaveNoConditions L → derives ≤ st.made + 1 → taken ≤ length st.steps + 1
    → Ran th G blocks
    (record st {
      hypotheses = L;
      queue = queue;
      chain = chain;
      steps = st.steps ++ x ∷ [];
      taken = taken;
      budget = budget;
      derives = derives;
      made = st.made + 1;
      deep = st.deep || is_deep_step th st.hypotheses x;
    }) S
ran_more th none G blocks st Q x L S queue chain taken budget derives r s o f room begins sorted bare few fewer =
    let long = length-append st.steps (x ∷ []) in
    let count = r.counted in
    record {
      finished = blocks_later th G st.deep (is_deep_step th st.hypotheses x) st.finished r.finished;
      earlier = r.earlier;
      all = r.all;
      begins = begins;
      sorted = sorted;
      bare = bare;
      run = run_more th none G st.deep (state st.earlier st.goals) st.steps (state st.hypotheses Q) x (state L S) r.bare r.run s;
      unfinished = all_push IsOpenStep st.steps x r.unfinished o;
      ended = r.ended;
      counted = omega (arith, long, count);
      small = omega (arith, room);
      few = few;
      taken = omega (arith, long, fewer);
      finished_terms = r.finished_terms;
      goals = r.goals;
      later = r.later;
      terms = steps_terms_more st.steps x th r.terms f;
    }

-- the same with another queue, chain and budget
pub ran_same : (th : Theory) (G : List Place) (blocks : List (List Goal)) (st : Standing) (Q queue : List Goal) (chain : ChainOf Tree) (budget : ℕ)
    → Ran th G blocks st Q → Ran th G blocks (record st { queue = queue; chain = chain; budget = budget }) Q
ran_same th G blocks st Q queue chain budget r = record {
  finished = r.finished;
  earlier = r.earlier;
  all = r.all;
  begins = r.begins;
  sorted = r.sorted;
  bare = r.bare;
  run = r.run;
  unfinished = r.unfinished;
  ended = r.ended;
  counted = r.counted;
  small = r.small;
  few = r.few;
  taken = r.taken;
  finished_terms = r.finished_terms;
  goals = r.goals;
  later = r.later;
  terms = r.terms;
}

-- The run so far leaves o and the rest, and the chain has led from o, which has no conditions, to the goal in hand as it stands, g.
pub record Held (th : Theory) (G : List Place) (blocks : List (List Goal)) (st : Standing) (o g : Goal) (rest : List Goal) : Type 0 where
  pub ran : Ran th G blocks st (o ∷ rest)
  pub bare : o.conds ≡ []
  pub left : Runs (Leads (setting th G st.hypotheses [])) st.chain.left o.left g.left
  pub right : Runs (Leads (setting th G st.hypotheses [])) st.chain.right o.right g.right
  pub links : AllOfChain (Fine th most) st.chain
  pub fine : FineGoal th (bound st) g
  pub fine_rest : FineGoals th (bound st) rest

abbrev pub Opened : Theory → List Place → (blocks : List (List Goal)) → Standing → (queue : List Goal) → Type 0
Opened th G blocks st [] = Ran th G blocks st []
Opened th G blocks st (g ∷ rest) = (o : Goal) × Held th G blocks st o g rest

-- a queue whose first goal is not yet touched
pub fresh_queue : (th : Theory) (G : List Place) (blocks : List (List Goal)) (st : Standing) (Q : List Goal) → st.chain ≡ no_links → Ran th G blocks st Q
    → FineGoals th (bound st) Q → Opened th G blocks st Q
fresh_queue th G blocks st [] none r f = r
fresh_queue th G blocks st (g ∷ rest) none r f =
    let P : ChainOf Tree → Type 0 = λ c. Runs (Leads (setting th G st.hypotheses [])) c.left g.left g.left in
    let Q : ChainOf Tree → Type 0 = λ c. Runs (Leads (setting th G st.hypotheses [])) c.right g.right g.right in (
      g,
      record {
        ran = r;
        bare = f.0.bare;
        left = subst P (sym none) refl;
        right = subst Q (sym none) refl;
        links = (let R : ChainOf Tree → Type 0 = AllOfChain (Fine th most) in subst R (sym none) (tt, tt));
        fine = f.0;
        fine_rest = f.1;
      },
    )

-- ---- the end of a block

-- the goals of a block's terms
goal_terms_fine : (th : Theory) (m : ℕ) (gs : List Goal) → half ≤ m → FineGoals th half gs → FineTerms th m (flat_map goal_terms gs)
goal_terms_fine th m [] h a = tt
goal_terms_fine th m (g ∷ gs) h a = (
  fine_more th half m g.left h a.0.left,
  (
    fine_more th half m g.right h a.0.right,
    (let P : List Pair → Type 0 = λ E. FineTerms th m (flat_map side_terms E ++ flat_map goal_terms gs) in
        subst P (sym a.0.bare) (goal_terms_fine th m gs h a.1)),
  ),
)

blocks_terms_more : (th : Theory) (bs : List ProvedBlock) (b : ProvedBlock) → FineTerms th most (flat_map block_terms bs) → FineTerms th most (block_terms b)
    → FineTerms th most (flat_map block_terms (bs ++ b ∷ []))
blocks_terms_more th [] b a f = all_append (Fine th most) (block_terms b) [] f tt
blocks_terms_more th (d ∷ bs) b a f =
    let p = all_parts (Fine th most) (block_terms d) (flat_map block_terms bs) a in
    all_append (Fine th most) (block_terms d) (flat_map block_terms (bs ++ b ∷ [])) p.0 (blocks_terms_more th bs b p.1 f)

-- Each block so far is proved, of which there are so many steps.
pub record Whole (th : Theory) (G : List Place) (blocks : List (List Goal)) (bs : List ProvedBlock) (later : List (List Goal)) (deep : Bool) (made derives : ℕ) : Type 0 where
  pub run : BlocksBoth th G deep bs
  pub all : block_goals bs ++ later ≡ blocks
  pub ended : AllByRecursion EndsDone bs
  pub counted : all_steps bs ≡ made
  pub small : made ≤ step_limit
  pub few : derives ≤ made
  pub terms : FineTerms th most (flat_map block_terms bs)
  pub later_goals : AllByRecursion (FineGoals th half) later

-- with Done, a block is whole
pub done_whole : (th : Theory) → HasNoConditions th → (G : List Place) (blocks : List (List Goal)) (st : Standing) → Ran th G blocks st [] → st.made < step_limit
    → Whole th G blocks (st.finished ++ proved_block st.goals (st.steps ++ Done ∷ []) ∷ []) st.later (st.deep || false) (st.made + 1) st.derives
done_whole th none G blocks st r room =
    let b : ProvedBlock = proved_block st.goals (st.steps ++ Done ∷ []) in
    let E : List Goal → Type 0 = λ x. RunBoth th G (st.deep || false) (state x st.goals) b.steps (state st.hypotheses []) in
    let run : RunBoth th G (st.deep || false) (state (goals_of st.finished) st.goals) b.steps (state st.hypotheses [])
    = subst E r.earlier (run_more th none G st.deep (state st.earlier st.goals) st.steps (state st.hypotheses []) Done (state st.hypotheses []) r.bare r.run refl) in
    let before = blocks_later th G st.deep false st.finished r.finished in
    let long = length-append st.steps (Done ∷ []) in
    let count = r.counted in
    let more = steps_more st.finished b in
    let few = r.few in
    record {
      run = record {
        under = blocks_more th G st.finished b [] before.under (st.hypotheses, run.under);
        plain = λ e. blocks_more th [] st.finished b [] (before.plain e) (st.hypotheses, run.plain e);
      };
      all = block_goals_more st.finished b st.later ∙ r.all;
      ended = all_push EndsDone st.finished b r.ended (st.steps, refl, r.unfinished);
      counted = omega (arith, long, count, more);
      small = omega (arith, room);
      few = omega (arith, few);
      terms = blocks_terms_more th st.finished b r.finished_terms
          (all_append (Fine th most) (flat_map goal_terms st.goals) (flat_map step_terms b.steps) (goal_terms_fine th most st.goals (omega arith) r.goals)
          (steps_terms_more st.steps Done th r.terms tt));
      later_goals = r.later;
    }

pub goals_of_more : (bs : List ProvedBlock) (b : ProvedBlock) → goals_of (bs ++ b ∷ []) ≡ goals_of bs ++ b.goals
goals_of_more bs b = goals_more bs b
