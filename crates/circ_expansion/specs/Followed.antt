-- What becomes of the goals of a block, told from its steps.
use Rattle.std.specs.Prelude.{ℕ, ◌+◌, List, [], ◌∷◌, ◌++◌, zero, suc, map, length, unwrap_or}
use Rattle.std.specs.List.{slice_get}
use Rattle.std.specs.Option.{option_map_or}
use Rattle.circ_term.specs.Tree.{Tree, Var, replaced}
use Rattle.circ_term.specs.Substitution.{instance}
use Rattle.circ_theory.specs.Theory.{Theory, Pair, pair_with, goal, goal_of, sides}
use Rattle.circ_theory.specs.Rewriting.{to_side, by_terms}
use Rattle.circ_theory.specs.Goal.{Goal}
use Rattle.circ_special.specs.declared.place.Place.{Place}
use Rattle.circ_proof.specs.Plain.{LinkOf, Equation_link, Hypothesis_link, Assumption_link, Content_link, ChainOf, WhyOf}
use Rattle.circ_proof.specs.Link.{Setting, setting}
use Rattle.circ_proof.specs.Rules.{ProofStep, Simplify, Reduce, Derive, Cases, Done, derivatives_on}
use Rattle.circ_proof.specs.Proof.{Block, Proof}
use Rattle.circ_proof.specs.Accepted.{steps_of}

-- ---- the one term that a link can lead to

abbrev pub put_or_same : Tree → List ℕ → Tree → Tree
put_or_same t p u = unwrap_or (replaced t p u) t

abbrev pub link_path : LinkOf Tree → List ℕ
link_path (Equation_link number way path terms conds) = path
link_path (Hypothesis_link number way path terms conds) = path
link_path (Assumption_link number way path) = path
link_path (Content_link op path term) = path

abbrev pub no_pair : Pair
no_pair = pair_with (Var 0 0) (Var 0 0)

abbrev pub no_goal : Goal
no_goal = goal [] (Var 0 0) (Var 0 0)

abbrev pub equation_at : Theory → ℕ → Goal
equation_at th n = option_map_or goal_of (slice_get th.equations n) no_goal

abbrev pub hypothesis_at : List Goal → ℕ → Goal
hypothesis_at gs n = unwrap_or (slice_get gs n) no_goal

abbrev pub assumption_at : List Pair → ℕ → Pair
assumption_at ps n = unwrap_or (slice_get ps n) no_pair

-- the term that a link puts at its path
abbrev pub new_of : Setting → LinkOf Tree → Tree
new_of c (Equation_link number way path terms conds) =
    instance (by_terms (equation_at c.theory number) terms) (to_side way (sides (equation_at c.theory number)))
new_of c (Hypothesis_link number way path terms conds) =
    instance (by_terms (hypothesis_at c.hypotheses number) terms) (to_side way (sides (hypothesis_at c.hypotheses number)))
new_of c (Assumption_link number way path) = to_side way (assumption_at c.assumptions number)
new_of c (Content_link op path term) = term

abbrev pub led : Setting → LinkOf Tree → Tree → Tree
led c l t = put_or_same t (link_path l) (new_of c l)

abbrev pub led_all : Setting → List (LinkOf Tree) → Tree → Tree
led_all c [] t = t
led_all c (l ∷ ls) t = led_all c ls (led c l t)

abbrev pub led_goal : Setting → ChainOf Tree → Goal → Goal
led_goal c chain g = goal g.conds (led_all c chain.left g.left) (led_all c chain.right g.right)

-- ---- histories

-- What becomes of a goal: it is simplified, and then something becomes of the new goal; or it is reduced; or derived, and then something becomes of each
-- derivative on it.
mutual
  pub data History : Type 0 where
    Simplified : (first : Goal) (chain : ChainOf Tree) (continued : History) → History
    Reduced_by : (first : Goal) (why : WhyOf Tree) → History
    Derived : (first : Goal) (children : Histories) → History
    Open : History

  pub data Histories : Type 0 where
    no_history : Histories
    more_histories : (first : History) (rest : Histories) → Histories

abbrev pub goal_in : History → Goal
goal_in (Simplified g chain continued) = g
goal_in (Reduced_by g why) = g
goal_in (Derived g children) = g
goal_in Open = no_goal

abbrev pub list_in : Histories → List History
list_in no_history = []
list_in (more_histories h hs) = h ∷ list_in hs

abbrev pub first_history : Histories → History
first_history no_history = Open
first_history (more_histories h hs) = h

abbrev pub other_histories : Histories → Histories
other_histories no_history = no_history
other_histories (more_histories h hs) = hs

-- the first n, and the others
abbrev pub first_histories : ℕ → Histories → Histories
first_histories zero hs = no_history
first_histories (suc n) no_history = no_history
first_histories (suc n) (more_histories h hs) = more_histories h (first_histories n hs)

abbrev pub histories_after : ℕ → Histories → Histories
histories_after zero hs = hs
histories_after (suc n) no_history = no_history
histories_after (suc n) (more_histories h hs) = histories_after n hs

-- what becomes of each goal that is open, in order, and the goals that are derived from here on, in order
pub record Told : Type 0 where
  pub goals : Histories
  pub derived : Histories

abbrev pub told_as : (goals derived : Histories) → Told
told_as gs ds = record { goals = gs; derived = ds }

abbrev pub and_simplified : Goal → ChainOf Tree → Told → Told
and_simplified p chain t = told_as (more_histories (Simplified p chain (first_history t.goals)) (other_histories t.goals)) t.derived

abbrev pub and_reduced : Goal → WhyOf Tree → Told → Told
and_reduced p why t = told_as (more_histories (Reduced_by p why) t.goals) t.derived

abbrev pub and_derived : Goal → (others : ℕ) → Told → Told
and_derived p n t =
    told_as (more_histories (Derived p (histories_after n t.goals)) (first_histories n t.goals))
    (more_histories (Derived p (histories_after n t.goals)) t.derived)

-- by the steps from the last to the first
abbrev pub told : Theory → List Place → (hypotheses goals : List Goal) → List (ProofStep Tree) → Told
told th G H gs [] = told_as no_history no_history
told th G H [] (s ∷ ss) = told_as no_history no_history
told th G H (p ∷ ps) (Simplify chain ∷ ss) = and_simplified p chain (told th G H (led_goal (setting th G H []) chain p ∷ ps) ss)
told th G H (p ∷ ps) (Reduce why ∷ ss) = and_reduced p why (told th G H ps ss)
told th G H (p ∷ ps) (Derive ∷ ss) = and_derived p (length ps) (told th G (H ++ p ∷ []) (ps ++ derivatives_on th p) ss)
told th G H (p ∷ ps) (Cases u ∷ ss) = told_as no_history no_history
told th G H (p ∷ ps) (Done ∷ ss) = told_as no_history no_history

-- a goal with the block in which it is followed
pub record Followed : Type 0 where
  pub block : ℕ
  pub history : History

abbrev pub followed_in : ℕ → Histories → List Followed
followed_in b hs = map (λ h. record { block = b; history = h }) (list_in hs)

abbrev pub told_in : Theory → Proof → (hypotheses : List Goal) → Block → Told
told_in th p H b = told th p.places H b.goals (steps_of p.table b)

-- For each block the hypotheses of its end, each as it is followed: a goal of an earlier block from that block's beginning, and one that was derived in the
-- block from its Derive on.
abbrev pub hypotheses_of : Theory → Proof → (block : ℕ) → (hypotheses : List Goal) → (earlier : List Followed) → List Block → List (List Followed)
hypotheses_of th p n H fs [] = []
hypotheses_of th p n H fs (b ∷ bs) =
    (fs ++ followed_in n (told_in th p H b).derived) ∷ hypotheses_of th p (n + 1) (H ++ b.goals) (fs ++ followed_in n (told_in th p H b).goals) bs

-- the goals of the blocks, in order
abbrev pub goals_of : Theory → Proof → (block : ℕ) → (hypotheses : List Goal) → List Block → List Followed
goals_of th p n H [] = []
goals_of th p n H (b ∷ bs) = followed_in n (told_in th p H b).goals ++ goals_of th p (n + 1) (H ++ b.goals) bs
