-- The plain search as a machine, one turn at a time, until it ends.
use Rattle.std.specs.Prelude.{◌≡◌, ℕ, zero, suc, ◌+◌, ◌-◌, Bool, true, false, not, ◌||◌, if◌then◌else◌, nat_le, List, [], ◌∷◌, ◌++◌, map, length, Option, Some, None, Result, Ok, Err}
use Rattle.std.specs.List.{slice_get, list_any}
use Rattle.std.specs.Option.{option_or, option_map_or}
use Rattle.circ_term.specs.Tree.{Tree, App, none, sort_of}
use Rattle.circ_term.specs.Limits.{Limit, Big, Deep, first_limit, or_else}
use Rattle.circ_term.specs.Order.{is_same}
use Rattle.circ_theory.specs.Theory.{Theory, Pair, pair_with, goal}
use Rattle.circ_theory.specs.Observing.{cases_of, is_hidden}
use Rattle.circ_theory.specs.Goal.{Goal}
use Rattle.circ_special.specs.declared.place.Place.{Place}
use Rattle.circ_proof.specs.Plain.{LinkOf, Equation_link, Hypothesis_link, Assumption_link, Content_link, ChainOf, WhyOf, WhysOf, Same_why, Split_why, no_why, more_whys}
use Rattle.circ_rewrite.specs.Norm.{Normalised, Normal_form, Budget_spent, Limit_passed, norm}
use Rattle.circ_rewrite.specs.Links.{link_of}
use Rattle.circ_rewrite.specs.declared.parts.Rule.{Rule}
use Rattle.circ_proof.specs.Rules.{ProofStep, Simplify, Reduce, Derive, Cases, Done, derivatives_on}
use Rattle.circ_proof.specs.Proof.{split_limit, step_limit}
use Rattle.circ_plain_search.specs.Joining.{Stop, No_budget, Past_limit, Not_split, and_then, HypothesisUse, use_link, joined, swept, put_all, put_counted, first_open}
use Rattle.circ_plain_search.specs.BlockRules.{block_rules, hidden_lemmas}

-- the most rewrite steps, and the most Derive steps
pub record Limits : Type 0 where
  pub steps : ℕ
  pub derives : ℕ

abbrev pub chain_with : (left right : List (LinkOf Tree)) → ChainOf Tree
chain_with l r = record { left = l; right = r }

abbrev pub no_links : ChainOf Tree
no_links = chain_with [] []

-- both chains, one after the other
abbrev pub chained : ChainOf Tree → ChainOf Tree → ChainOf Tree
chained a b = chain_with (a.left ++ b.left) (a.right ++ b.right)

-- a side in normal form, with the links to it and the rewrite steps that are left
pub record NormalSide : Type 0 where
  pub term : Tree
  pub links : List (LinkOf Tree)
  pub budget : ℕ

-- the two sides of a goal, with the links to them and the rewrite steps that are left
pub record Sides : Type 0 where
  pub left : Tree
  pub right : Tree
  pub chain : ChainOf Tree
  pub budget : ℕ

abbrev pub normal_side : Tree → List (LinkOf Tree) → ℕ → NormalSide
normal_side t ls k = record { term = t; links = ls; budget = k }

abbrev pub sides_with : (s t : Tree) → ChainOf Tree → (budget : ℕ) → Sides
sides_with s t c k = record { left = s; right = t; chain = c; budget = k }

-- what normalising comes to, with links for the traces
abbrev pub side_of : Normalised → Result NormalSide Stop
side_of (Normal_form t traces k) = Ok (normal_side t (map link_of traces) k)
side_of Budget_spent = Err No_budget
side_of (Limit_passed l k) = Err (Past_limit l)

abbrev pub normalised : Theory → List Rule → (assumptions : List Pair) → Tree → (budget : ℕ) → Result NormalSide Stop
normalised th R A t k = side_of (norm th.signature R A k t)

-- s is normalised, then t
abbrev pub normal_sides : Theory → List Rule → (assumptions : List Pair) → (s t : Tree) → (budget : ℕ) → Result Sides Stop
normal_sides th R A s t k =
    and_then (normalised th R A s k) (λ a. and_then (normalised th R A t a.budget) (λ b. Ok (sides_with a.term b.term (chain_with a.links b.links) b.budget)))

-- why two sides are equal, and the rewrite steps that are left
pub record Reason : Type 0 where
  pub why : WhyOf Tree
  pub budget : ℕ

-- a term that was split on, why the sides are equal in each of its cases, and the rewrite steps that are left
pub record SplitReason : Type 0 where
  pub term : Tree
  pub whys : WhysOf Tree
  pub budget : ℕ

abbrev pub reason_with : WhyOf Tree → ℕ → Reason
reason_with w k = record { why = w; budget = k }

abbrev pub split_with : Tree → WhysOf Tree → ℕ → SplitReason
split_with u ws k = record { term = u; whys = ws; budget = k }

-- the term u is the constant c
abbrev pub case_of : Tree → (c : ℕ) → Pair
case_of u c = pair_with u (App c (sort_of u) none)

-- how two sides under assumptions are split with a budget
abbrev pub Splitter : Type 0
Splitter = (assumptions : List Pair) → (s t : Tree) → (budget : ℕ) → Result SplitReason Stop

-- a case ends where the sides are equal, and else is split again
abbrev pub case_reason : Splitter → List Pair → Sides → Result Reason Stop
case_reason again A n =
    if is_same n.left n.right then Ok (reason_with (Same_why n.chain) n.budget)
    else and_then (again A n.left n.right n.budget) (λ c. Ok (reason_with (Split_why n.chain c.term c.whys) c.budget))

-- For each constant in order its case of u is assumed, and s and t as they stand are normalised.
abbrev pub each_case : Theory → List Rule → Splitter → List Pair → (u s t : Tree) → (constants : List ℕ) → (budget : ℕ) → Result SplitReason Stop
each_case th R again A u s t [] k = Ok (split_with u no_why k)
each_case th R again A u s t (c ∷ cs) k =
    and_then (and_then (normal_sides th R (A ++ case_of u c ∷ []) s t k) (case_reason again (A ++ case_of u c ∷ [])))
    (λ r. and_then (each_case th R again A u s t cs r.budget) (λ b. Ok (split_with u (more_whys r.why b.whys) b.budget)))

abbrev pub constants_of : Theory → (sort : ℕ) → List ℕ
constants_of th s = option_map_or (λ cs. cs) (cases_of th s) []

-- the cases of an open term, if there is one
abbrev pub open_cases : Theory → List Rule → Splitter → Option Tree → Splitter
open_cases th R again None A s t k = Err (Not_split s t A)
open_cases th R again (Some u) A s t k = each_case th R again A u s t (constants_of th (sort_of u)) k

-- The cases of the first open subterm of s, or, where s has none, of t, with room for so many splits inside one another.
abbrev pub split_cases : Theory → List Rule → (room : ℕ) → Splitter
split_cases th R zero A s t k = Err (Not_split s t A)
split_cases th R (suc n) A s t k = open_cases th R (split_cases th R n) (option_or (first_open th s) (first_open th t)) A s t k

-- a link of a hidden hypothesis at a path that is not empty
abbrev pub is_deep : Theory → (hypotheses : List Goal) → LinkOf Tree → Bool
is_deep th H (Equation_link n w q ts cs) = false
is_deep th H (Hypothesis_link n w [] ts cs) = false
is_deep th H (Hypothesis_link n w (i ∷ q) ts cs) = option_map_or (λ h. is_hidden th (sort_of h.left)) (slice_get H n) false
is_deep th H (Assumption_link n w q) = false
is_deep th H (Content_link f q t) = false

-- whether a chain, a why, a step has such a link
abbrev pub is_deep_chain : Theory → (hypotheses : List Goal) → ChainOf Tree → Bool
is_deep_chain th H c = list_any (is_deep th H) c.left || list_any (is_deep th H) c.right

abbrev mutual
  pub is_deep_why : Theory → (hypotheses : List Goal) → WhyOf Tree → Bool
  is_deep_why th H (Same_why c) = is_deep_chain th H c
  is_deep_why th H (Split_why c u ws) = is_deep_chain th H c || are_deep_whys th H ws

  pub are_deep_whys : Theory → (hypotheses : List Goal) → WhysOf Tree → Bool
  are_deep_whys th H no_why = false
  are_deep_whys th H (more_whys w ws) = is_deep_why th H w || are_deep_whys th H ws

abbrev pub is_deep_step : Theory → (hypotheses : List Goal) → ProofStep Tree → Bool
is_deep_step th H (Simplify c) = is_deep_chain th H c
is_deep_step th H (Reduce w) = is_deep_why th H w
is_deep_step th H Derive = false
is_deep_step th H (Cases u) = false
is_deep_step th H Done = false

-- a block that is proved: its goals, and the steps that prove them
pub record ProvedBlock : Type 0 where
  pub goals : List Goal
  pub steps : List (ProofStep Tree)

-- The search in the midst of a block. The first goal of the queue is the one in hand: its sides are as they stand now, and the chain has led to them.
pub record Standing : Type 0 where
  pub finished : List ProvedBlock
  pub earlier : List Goal  -- the goals of the finished blocks
  pub goals : List Goal  -- those of this block
  pub later : List (List Goal)  -- those of the blocks to come
  pub hypotheses : List Goal
  pub queue : List Goal
  pub chain : ChainOf Tree
  pub steps : List (ProofStep Tree)  -- this block's
  pub taken : ℕ  -- the goals of this block that are dropped or derived
  pub budget : ℕ  -- the rewrite steps that are left
  pub derives : ℕ  -- the Derive steps made
  pub made : ℕ  -- all steps made
  pub deep : Bool  -- whether a hidden hypothesis was used at a path that is not empty

-- How the search ends: every goal is done, with these Derive steps and steps; a goal of a block cannot be split further; a budget is spent, after so
-- many rewrite steps, Derive steps and steps; or a term passes a limit.
pub data Ending : Type 0 where
  All_done : (blocks : List ProvedBlock) (derives steps : ℕ) (deep : Bool) → Ending
  Is_stuck : (block goal : ℕ) (left right : Tree) (assumptions : List Pair) → Ending
  Is_spent : (rewrites derives steps : ℕ) → Ending
  Is_too_big : (nodes : ℕ) → Ending
  Is_too_deep : (depth : ℕ) → Ending

abbrev pub spent : Limits → Standing → Ending
spent l st = Is_spent (l.steps - st.budget) st.derives st.made

abbrev pub past : Limit → Ending
past (Big n) = Is_too_big n
past (Deep n) = Is_too_deep n

-- the ending that a part of the search makes; blocks and goals are counted from 1
abbrev pub ending_by : Limits → Standing → Stop → Ending
ending_by l st No_budget = Is_spent l.steps st.derives st.made
ending_by l st (Past_limit x) = past x
ending_by l st (Not_split s t A) = Is_stuck (length st.finished + 1) (st.taken + 1) s t A

abbrev pub or_end : {A : Type 0} → Limits → Standing → Result A Stop → Result A Ending
or_end l st (Ok a) = Ok a
or_end l st (Err e) = Err (ending_by l st e)

-- A step is recorded, unless it would be one too many.
abbrev pub record_step : Theory → Limits → Standing → ProofStep Tree → Result Standing Ending
record_step th l st x =
    if nat_le step_limit st.made then Err (spent l st)
    else Ok (record st { steps = st.steps ++ x ∷ []; made = st.made + 1; deep = st.deep || is_deep_step th st.hypotheses x })

abbrev pub is_nil : {X : Type 0} → List X → Bool
is_nil [] = true
is_nil (x ∷ xs) = false

abbrev pub has_links : ChainOf Tree → Bool
has_links c = not (is_nil (c.left ++ c.right))

-- The goal in hand is done with, and these are the hypotheses and the goals now.
abbrev pub next_goal : (hypotheses queue : List Goal) → Standing → Standing
next_goal H Q st = record st { hypotheses = H; queue = Q; chain = no_links; taken = st.taken + 1 }

-- the goal in hand, which has no conditions, has these sides now, to which these links have led
abbrev pub with_sides : Standing → (rest : List Goal) → Sides → Standing
with_sides st rest n = record st { queue = goal [] n.left n.right ∷ rest; chain = chained st.chain n.chain; budget = n.budget }

-- the goal in hand is reduced by the reason
abbrev pub reduced : Theory → Limits → Standing → (rest : List Goal) → WhyOf Tree → Result Standing Ending
reduced th l st rest why = and_then (record_step th l st (Reduce why)) (λ x. Ok (next_goal x.hypotheses rest x))

-- the first limit that a side of the goals passes, in order
abbrev pub goals_limit : List Goal → Option Limit
goals_limit [] = None
goals_limit (g ∷ gs) = or_else (first_limit g.left) (or_else (first_limit g.right) (goals_limit gs))

abbrev pub unless_past : {A : Type 0} → Option Limit → A → Result A Stop
unless_past None a = Ok a
unless_past (Some x) a = Err (Past_limit x)

-- Derive: the goal in hand becomes a hypothesis, and its derivatives become goals. That no step is left is told before these are built.
abbrev pub derive_turn : Theory → Limits → Standing → Goal → (rest : List Goal) → Result Standing Ending
derive_turn th l st g rest =
    if nat_le step_limit st.made then Err (spent l st)
    else and_then (or_end l st (unless_past (goals_limit (derivatives_on th g)) (derivatives_on th g)))
    (λ gs. and_then (record_step th l st Derive) (λ x. Ok (next_goal (x.hypotheses ++ g ∷ []) (rest ++ gs) (record x { derives = x.derives + 1 }))))

-- a Simplify step, where the chain has a link
abbrev pub simplified : Theory → Limits → Standing → Result Standing Ending
simplified th l st = if has_links st.chain then record_step th l st (Simplify st.chain) else Ok st

-- A hidden goal: the Derive budget first, then a Simplify step, then Derive.
abbrev pub hidden_turn : Theory → Limits → Standing → Goal → (rest : List Goal) → Result Standing Ending
hidden_turn th l st g rest =
    if nat_le l.derives st.derives then Err (spent l st) else and_then (simplified th l st) (λ x. derive_turn th l x g rest)

-- A visible goal is split.
abbrev pub visible_turn : Theory → Limits → Standing → Goal → (rest : List Goal) → Result Standing Ending
visible_turn th l st g rest =
    and_then (or_end l st (split_cases th (block_rules th st.earlier) split_limit [] g.left g.right st.budget))
    (λ c. reduced th l (record st { budget = c.budget }) rest (Split_why st.chain c.term c.whys))

abbrev pub open_turn : Theory → Limits → Standing → Goal → (rest : List Goal) → Result Standing Ending
open_turn th l st g rest = if is_hidden th (sort_of g.left) then hidden_turn th l st g rest else visible_turn th l st g rest

-- what a lemma pass over a side uses
abbrev pub pass_uses : Theory → List Place → (earlier : List Goal) → Tree → List HypothesisUse
pass_uses th G E t = swept G (hidden_lemmas th 0 E) [] t

-- a lemma pass over s, then over t
abbrev pub swept_sides : Theory → List Place → (earlier : List Goal) → (s t : Tree) → (budget : ℕ) → Result Sides Stop
swept_sides th G E s t k =
    and_then (put_counted k s (pass_uses th G E s))
    (λ a. and_then (put_counted a.1 t (pass_uses th G E t))
    (λ b. Ok (sides_with a.0 b.0 (chain_with (map use_link (pass_uses th G E s)) (map use_link (pass_uses th G E t))) b.1)))

-- A lemma pass over both sides. Where a replacement was made, the goal goes on from the first item with the chains kept.
abbrev pub pass_turn : Theory → List Place → Limits → Standing → Goal → (rest : List Goal) → Result Standing Ending
pass_turn th G l st g rest =
    and_then (or_end l st (swept_sides th G st.earlier g.left g.right st.budget))
    (λ n. if has_links n.chain then Ok (with_sides st rest n) else open_turn th l st g rest)

-- Where the sides join, the goal is reduced. Join's links go to the left of the chain.
abbrev pub join_turn : Theory → List Place → Limits → Standing → Goal → (rest : List Goal) → Option (List HypothesisUse) → Result Standing Ending
join_turn th G l st g rest None = pass_turn th G l st g rest
join_turn th G l st g rest (Some us) =
    and_then (or_end l st (put_all g.left us)) (λ u. reduced th l st rest (Same_why (chained st.chain (chain_with (map use_link us) []))))

-- a goal whose sides are in normal form
abbrev pub sides_turn : Theory → List Place → Limits → Standing → Goal → (rest : List Goal) → Result Standing Ending
sides_turn th G l st g rest = join_turn th G l st g rest (joined G st.hypotheses [] g.left g.right)

-- One goal: both sides are normalised, and then it is looked at.
abbrev pub goal_turn : Theory → List Place → Limits → Standing → Goal → (rest : List Goal) → Result Standing Ending
goal_turn th G l st g rest =
    and_then (or_end l st (normal_sides th (block_rules th st.earlier) [] g.left g.right st.budget))
    (λ n. sides_turn th G l (with_sides st rest n) (goal [] n.left n.right) rest)

abbrev pub proved_block : (goals : List Goal) → List (ProofStep Tree) → ProvedBlock
proved_block gs xs = record { goals = gs; steps = xs }

-- a block begins
abbrev pub begun : List ProvedBlock → (earlier goals : List Goal) → (later : List (List Goal)) → (budget derives made : ℕ) → Bool → Standing
begun finished earlier goals later k d m deep = record {
  finished = finished;
  earlier = earlier;
  goals = goals;
  later = later;
  hypotheses = earlier;
  queue = goals;
  chain = no_links;
  steps = [];
  taken = 0;
  budget = k;
  derives = d;
  made = m;
  deep = deep;
}

-- the blocks that are finished when this one is
abbrev pub with_this : Standing → List ProvedBlock
with_this st = st.finished ++ proved_block st.goals st.steps ∷ []

-- the next block begins, if there is one
abbrev pub next_block : Standing → (later : List (List Goal)) → Result Standing Ending
next_block st [] = Err (All_done (with_this st) st.derives st.made st.deep)
next_block st (b ∷ bs) = Ok (begun (with_this st) (st.earlier ++ st.goals) b bs st.budget st.derives st.made st.deep)

-- After a block's last goal a Done step is made.
abbrev pub done_turn : Theory → Limits → Standing → Result Standing Ending
done_turn th l st = and_then (record_step th l st Done) (λ x. next_block x x.later)

-- one turn: the first goal of the queue is treated, if there is one
abbrev pub turn_at : Theory → List Place → Limits → Standing → (queue : List Goal) → Result Standing Ending
turn_at th G l st [] = done_turn th l st
turn_at th G l st (g ∷ rest) = goal_turn th G l st g rest

abbrev pub turn : Theory → List Place → Limits → Standing → Result Standing Ending
turn th G l st = turn_at th G l st st.queue

-- The search ends so from here.
pub data Reaches (th : Theory) (G : List Place) (l : Limits) : Standing → Ending → Type 0 where
  ends : (st : Standing) (e : Ending) → turn th G l st ≡ Err e → Reaches th G l st e
  goes : (st next : Standing) (e : Ending) → turn th G l st ≡ Ok next → Reaches th G l next e → Reaches th G l st e

-- the start with these blocks, of which there is one at least
abbrev pub start : Limits → List (List Goal) → Standing
start l [] = begun [] [] [] [] l.steps 0 0 false
start l (b ∷ bs) = begun [] [] b bs l.steps 0 0 false
