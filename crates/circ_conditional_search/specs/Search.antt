-- The search with conditions as a machine, one turn at a time, until it ends. Where it goes the plain search stands, by the plain search's words.
use Rattle.std.specs.Prelude.{◌≡◌, ℕ, zero, suc, ◌+◌, Bool, false, ◌||◌, ◌&&◌, if◌then◌else◌, nat_le, nat_lt, List, [], ◌∷◌, ◌++◌, map, length, Option, Some, None, Result, Ok, Err}
use Rattle.std.specs.List.{slice_get, list_any}
use Rattle.std.specs.Option.{option_or, option_map_or}
use Rattle.circ_term.specs.Tree.{Tree, sort_of}
use Rattle.circ_theory.specs.Limits.{condition_limit}
use Rattle.circ_theory.specs.Theory.{Theory, Pair, goal}
use Rattle.circ_theory.specs.Observing.{is_hidden}
use Rattle.circ_theory.specs.Goal.{Goal}
use Rattle.circ_special.specs.declared.place.Place.{Place}
use Rattle.circ_proof.specs.Goals.{with_cond}
use Rattle.circ_proof.specs.Plain.{LinkOf, LinksOf, ChainsOf, Equation_link, Hypothesis_link, Assumption_link, Content_link, no_link, more_links, no_chain, more_chains}
use Rattle.circ_proof.specs.Plain.{ChainOf, WhyOf, WhysOf, Same_why, Split_why, no_why, more_whys}
use Rattle.circ_proof.specs.Proof.{split_limit, step_limit}
use Rattle.circ_proof.specs.Rules.{ProofStep, Simplify, Reduce, Derive, Cases, Done}
use Rattle.circ_rewrite.specs.declared.parts.Rule.{Rule}
use Rattle.circ_conditional_norm.specs.Norm.{conditional_norm}
use Rattle.circ_conditional_norm.specs.Tries.{Normaliser}
use Rattle.circ_conditional_norm.specs.Work.{Work, Made, Out, Past}
use Rattle.circ_plain_search.specs.BlockRules.{block_rules, hidden_lemmas}
use Rattle.circ_plain_search.specs.Joining.{Stop, No_budget, Past_limit, Not_split, and_then, HypothesisUse, use_link, put_all, first_open}
use Rattle.circ_plain_search.specs.Search.{Limits, chain_with, chained, NormalSide, side_of, Sides, sides_with, SplitReason, split_with, case_of, Splitter, case_reason, constants_of}
use Rattle.circ_plain_search.specs.Search.{Standing, Ending, spent, ending_by, or_end, has_links, next_goal, record_step, derive_turn, done_turn}
use Rattle.circ_conditional_search.specs.Joining.{joined_trying, Swept, swept_with, swept_trying, work_then}

-- how a search goes: its budgets, and whether hidden goals are split
pub record Manner : Type 0 where
  pub limits : Limits
  pub split : Bool

abbrev pub normalised_trying : Theory → List Rule → (assumptions : List Pair) → Tree → (budget : ℕ) → Result NormalSide Stop
normalised_trying th R A t k = side_of (conditional_norm 0 th.signature R A k t)

-- how the conditions of hypotheses and hidden lemmas are normalised, whose own try is one that stands around them
abbrev pub condition_normaliser : Theory → (earlier : List Goal) → (assumptions : List Pair) → Normaliser
condition_normaliser th E A = conditional_norm 1 th.signature (block_rules th E) A

-- s is normalised, then t
abbrev pub normal_sides_trying : Theory → List Rule → (assumptions : List Pair) → (s t : Tree) → (budget : ℕ) → Result Sides Stop
normal_sides_trying th R A s t k =
    and_then (normalised_trying th R A s k)
    (λ a. and_then (normalised_trying th R A t a.budget) (λ b. Ok (sides_with a.term b.term (chain_with a.links b.links) b.budget)))

-- For each constant in order its case of u is assumed, and s and t as they stand are normalised.
abbrev pub each_case_trying : Theory → List Rule → Splitter → List Pair → (u s t : Tree) → (constants : List ℕ) → (budget : ℕ) → Result SplitReason Stop
each_case_trying th R again A u s t [] k = Ok (split_with u no_why k)
each_case_trying th R again A u s t (c ∷ cs) k =
    and_then (and_then (normal_sides_trying th R (A ++ case_of u c ∷ []) s t k) (case_reason again (A ++ case_of u c ∷ [])))
    (λ r. and_then (each_case_trying th R again A u s t cs r.budget) (λ b. Ok (split_with u (more_whys r.why b.whys) b.budget)))

-- the cases of an open term, if there is one
abbrev pub open_cases_trying : Theory → List Rule → Splitter → Option Tree → Splitter
open_cases_trying th R again None A s t k = Err (Not_split s t A)
open_cases_trying th R again (Some u) A s t k = each_case_trying th R again A u s t (constants_of th (sort_of u)) k

-- the first open subterm of s, or, where s has none, of t
abbrev pub first_open_of : Theory → (s t : Tree) → Option Tree
first_open_of th s t = option_or (first_open th s) (first_open th t)

-- The cases of the first open subterm, with room for so many splits inside one another.
abbrev pub split_cases_trying : Theory → List Rule → (room : ℕ) → Splitter
split_cases_trying th R zero A s t k = Err (Not_split s t A)
split_cases_trying th R (suc n) A s t k = open_cases_trying th R (split_cases_trying th R n) (first_open_of th s t) A s t k

-- ---- whether a hidden hypothesis is used at a path that is not empty, at any depth of conditions

abbrev pub is_hidden_use : Theory → (hypotheses : List Goal) → (number : ℕ) → (path : List ℕ) → Bool
is_hidden_use th H n [] = false
is_hidden_use th H n (i ∷ q) = option_map_or (λ h. is_hidden th (sort_of h.left)) (slice_get H n) false

abbrev mutual
  pub link_is_deep : Theory → (hypotheses : List Goal) → LinkOf Tree → Bool
  link_is_deep th H (Equation_link n w q ts cs) = chains_are_deep th H cs
  link_is_deep th H (Hypothesis_link n w q ts cs) = is_hidden_use th H n q || chains_are_deep th H cs
  link_is_deep th H (Assumption_link n w q) = false
  link_is_deep th H (Content_link f q t) = false

  pub row_is_deep : Theory → (hypotheses : List Goal) → LinksOf Tree → Bool
  row_is_deep th H no_link = false
  row_is_deep th H (more_links l ls) = link_is_deep th H l || row_is_deep th H ls

  pub chains_are_deep : Theory → (hypotheses : List Goal) → ChainsOf Tree → Bool
  chains_are_deep th H no_chain = false
  chains_are_deep th H (more_chains l r cs) = row_is_deep th H l || (row_is_deep th H r || chains_are_deep th H cs)

-- whether a chain, a why, a step has such a link
abbrev pub chain_is_deep : Theory → (hypotheses : List Goal) → ChainOf Tree → Bool
chain_is_deep th H c = list_any (link_is_deep th H) c.left || list_any (link_is_deep th H) c.right

abbrev mutual
  pub why_is_deep : Theory → (hypotheses : List Goal) → WhyOf Tree → Bool
  why_is_deep th H (Same_why c) = chain_is_deep th H c
  why_is_deep th H (Split_why c u ws) = chain_is_deep th H c || whys_are_deep th H ws

  pub whys_are_deep : Theory → (hypotheses : List Goal) → WhysOf Tree → Bool
  whys_are_deep th H no_why = false
  whys_are_deep th H (more_whys w ws) = why_is_deep th H w || whys_are_deep th H ws

abbrev pub step_is_deep : Theory → (hypotheses : List Goal) → ProofStep Tree → Bool
step_is_deep th H (Simplify c) = chain_is_deep th H c
step_is_deep th H (Reduce w) = why_is_deep th H w
step_is_deep th H Derive = false
step_is_deep th H (Cases u) = false
step_is_deep th H Done = false

-- A step is recorded, unless it would be one too many.
abbrev pub step_recorded : Theory → Limits → Standing → ProofStep Tree → Result Standing Ending
step_recorded th l st x =
    if nat_le step_limit st.made then Err (spent l st)
    else Ok (record st { steps = st.steps ++ x ∷ []; made = st.made + 1; deep = st.deep || step_is_deep th st.hypotheses x })

-- ---- the turns

-- the goal in hand has these sides now, to which these links have led
abbrev pub with_sides_of : Standing → Goal → (rest : List Goal) → Sides → Standing
with_sides_of st g rest n = record st { queue = goal g.conds n.left n.right ∷ rest; chain = chained st.chain n.chain; budget = n.budget }

-- the goal in hand is reduced by the reason
abbrev pub goal_reduced : Theory → Limits → Standing → (rest : List Goal) → WhyOf Tree → Result Standing Ending
goal_reduced th l st rest why = and_then (step_recorded th l st (Reduce why)) (λ x. Ok (next_goal x.hypotheses rest x))

-- a Simplify step, where the chain has a link
abbrev pub goal_simplified : Theory → Limits → Standing → Result Standing Ending
goal_simplified th l st = if has_links st.chain then step_recorded th l st (Simplify st.chain) else Ok st

-- Cases: the goal in hand is replaced by the goals in which u is each constant in turn.
abbrev pub cases_turn : Theory → Limits → Standing → Goal → (rest : List Goal) → (u : Tree) → Result Standing Ending
cases_turn th l st g rest u =
    and_then (goal_simplified th l st) (λ x. and_then (record_step th l x (Cases u))
    (λ y. Ok (next_goal y.hypotheses (map (λ c. with_cond g (case_of u c)) (constants_of th (sort_of u)) ++ rest) y)))

-- what a hidden goal is split on, if it is
abbrev pub case_term : Theory → (split : Bool) → Goal → Option Tree
case_term th split g = if split && nat_lt (length g.conds) condition_limit then first_open_of th g.left g.right else None

-- A hidden goal that is not split: the Derive budget first, then a Simplify step, then Derive.
abbrev pub derives_turn : Theory → Limits → Standing → Goal → (rest : List Goal) → Result Standing Ending
derives_turn th l st g rest =
    if nat_le l.derives st.derives then Err (spent l st) else and_then (goal_simplified th l st) (λ x. derive_turn th l x g rest)

-- a hidden goal
abbrev pub hidden_turn_trying : Theory → Manner → Standing → Goal → (rest : List Goal) → Result Standing Ending
hidden_turn_trying th m st g rest =
    option_map_or (cases_turn th m.limits st g rest) (case_term th m.split g) (derives_turn th m.limits st g rest)

-- A visible goal is split.
abbrev pub visible_turn_trying : Theory → Limits → Standing → Goal → (rest : List Goal) → Result Standing Ending
visible_turn_trying th l st g rest =
    and_then (or_end l st (split_cases_trying th (block_rules th st.earlier) split_limit g.conds g.left g.right st.budget))
    (λ c. goal_reduced th l (record st { budget = c.budget }) rest (Split_why st.chain c.term c.whys))

abbrev pub open_turn_trying : Theory → Manner → Standing → Goal → (rest : List Goal) → Result Standing Ending
open_turn_trying th m st g rest =
    if is_hidden th (sort_of g.left) then hidden_turn_trying th m st g rest else visible_turn_trying th m.limits st g rest

-- a part that takes steps: how it ends, or its value with the steps that are left
abbrev pub worked : {A B : Type 0} → Limits → Standing → Work A → (A → Standing → Result B Ending) → Result B Ending
worked l st (Made a k) f = f a (record st { budget = k })
worked l st Out f = Err (ending_by l st No_budget)
worked l st (Past x k) f = Err (ending_by l st (Past_limit x))

-- a lemma pass over s, then over t
abbrev pub swept_sides_trying : Theory → List Place → (earlier : List Goal) → Goal → (budget : ℕ) → Work (Swept × Swept)
swept_sides_trying th G E g k =
    work_then (swept_trying (condition_normaliser th E g.conds) G (hidden_lemmas th 0 E) [] g.left (swept_with g.left []) k)
    (λ a m. work_then (swept_trying (condition_normaliser th E g.conds) G (hidden_lemmas th 0 E) [] g.right (swept_with g.right []) m)
    (λ b n. Made (a, b) n))

-- the links of a pass over both sides
abbrev pub pass_chain : Swept × Swept → ChainOf Tree
pass_chain w = chain_with (map use_link w.0.uses) (map use_link w.1.uses)

-- the goal after a pass over both sides
abbrev pub passed_sides : Swept × Swept → (budget : ℕ) → Sides
passed_sides w k = sides_with w.0.whole w.1.whole (pass_chain w) k

-- A lemma pass over both sides. Where a replacement was made, the goal goes on from the first item with the chains kept.
abbrev pub pass_turn_trying : Theory → List Place → Manner → Standing → Goal → (rest : List Goal) → Result Standing Ending
pass_turn_trying th G m st g rest =
    worked m.limits st (swept_sides_trying th G st.earlier g st.budget)
    (λ w x. if has_links (pass_chain w) then Ok (with_sides_of x g rest (passed_sides w x.budget)) else open_turn_trying th m x g rest)

-- Where the sides join, the goal is reduced. Join's links go to the left of the chain.
abbrev pub join_turn_trying : Theory → List Place → Manner → Standing → Goal → (rest : List Goal) → Option (List HypothesisUse) → Result Standing Ending
join_turn_trying th G m st g rest None = pass_turn_trying th G m st g rest
join_turn_trying th G m st g rest (Some us) =
    and_then (or_end m.limits st (put_all g.left us))
    (λ u. goal_reduced th m.limits st rest (Same_why (chained st.chain (chain_with (map use_link us) []))))

-- a goal whose sides are in normal form
abbrev pub sides_turn_trying : Theory → List Place → Manner → Standing → Goal → (rest : List Goal) → Result Standing Ending
sides_turn_trying th G m st g rest =
    worked m.limits st (joined_trying (condition_normaliser th st.earlier g.conds) G st.hypotheses [] g.left g.right st.budget)
    (λ o x. join_turn_trying th G m x g rest o)

-- One goal: both sides are normalised under its conditions, and then it is looked at.
abbrev pub goal_turn_trying : Theory → List Place → Manner → Standing → Goal → (rest : List Goal) → Result Standing Ending
goal_turn_trying th G m st g rest =
    and_then (or_end m.limits st (normal_sides_trying th (block_rules th st.earlier) g.conds g.left g.right st.budget))
    (λ n. sides_turn_trying th G m (with_sides_of st g rest n) (goal g.conds n.left n.right) rest)

-- one turn: the first goal of the queue is treated, if there is one
abbrev pub turn_trying_at : Theory → List Place → Manner → Standing → (queue : List Goal) → Result Standing Ending
turn_trying_at th G m st [] = done_turn th m.limits st
turn_trying_at th G m st (g ∷ rest) = goal_turn_trying th G m st g rest

abbrev pub turn_trying : Theory → List Place → Manner → Standing → Result Standing Ending
turn_trying th G m st = turn_trying_at th G m st st.queue

-- The search ends so from here.
pub data Finishes (th : Theory) (G : List Place) (m : Manner) : Standing → Ending → Type 0 where
  stops : (st : Standing) (e : Ending) → turn_trying th G m st ≡ Err e → Finishes th G m st e
  goes_on : (st next : Standing) (e : Ending) → turn_trying th G m st ≡ Ok next → Finishes th G m next e → Finishes th G m st e
