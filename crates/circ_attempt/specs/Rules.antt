-- Hypotheses as rules of a pass: the hidden lemmas, and what the block has derived itself (own rules).
use Rattle.std.specs.Prelude.{ℕ, ◌+◌, zero, suc, nat_lt, Bool, true, false, not, is_some, ◌&&◌, if◌then◌else◌, List, [], ◌∷◌, length, Option, Some, None}
use Rattle.circ_term.specs.Tree.{Tree, sort_of, size_of, operator_number}
use Rattle.circ_term.specs.Order.{is_same}
use Rattle.circ_term.specs.Substitution.{instance}
use Rattle.circ_theory.specs.Theory.{Theory, goal, sides}
use Rattle.circ_theory.specs.Observing.{is_hidden}
use Rattle.circ_theory.specs.Rewriting.{from_side, to_side}
use Rattle.circ_theory.specs.Goal.{Goal}
use Rattle.circ_theory.specs.declared.way.Way.{Way}
use Rattle.circ_theory.specs.declared.way.Way.TheVariants.{Forth, Back}
use Rattle.circ_proof.specs.Rules.{ProofStep, Simplify, Reduce, Derive, Cases, Done}
use Rattle.circ_rewrite.specs.Due.{terms_by}
use Rattle.circ_rewrite.specs.Matching.{matching, matches}
use Rattle.circ_conditional_norm.specs.Tries.{Normaliser, tried}
use Rattle.circ_conditional_norm.specs.Work.{Work, Made, or_next, map_found}
use Rattle.circ_plain_search.specs.BlockRules.{can_rewrite}
use Rattle.circ_plain_search.specs.Joining.{HypothesisUse, hypothesis_variables}
use Rattle.circ_plain_search.specs.Search.{constants_of}
use Rattle.circ_conditional_search.specs.Joining.{use_passing}
use Rattle.circ_attempt.specs.Below.{is_below}

-- A hypothesis as a rule: its number, the way in which it is read, and whether it is taken only where the new term is below the old one.
pub record HypothesisRule : Type 0 where
  pub number : ℕ
  pub way : Way
  pub hypothesis : Goal
  pub ordered : Bool

abbrev pub read_as : ℕ → Way → Goal → (ordered : Bool) → HypothesisRule
read_as n w h o = record { number = n; way = w; hypothesis = h; ordered = o }

-- the same goal the other way about
abbrev pub turned : Goal → Goal
turned h = goal h.conds h.right h.left

-- The left side is no variable, and has all variables of the right side. What the conditions have besides stands for itself.
abbrev pub can_read : Goal → Bool
can_read h = can_rewrite (goal [] h.left h.right)

-- each side is an instance of the other
abbrev pub match_each_other : Goal → Bool
match_each_other h = matches h.left h.right && matches h.right h.left

abbrev pub or_no_rule : Option HypothesisRule → List HypothesisRule → List HypothesisRule
or_no_rule None rest = rest
or_no_rule (Some r) rest = r ∷ rest

-- ---- own rules

-- the left side is no variable, and the sides match each other
abbrev pub is_even : Goal → Bool
is_even h = is_some (operator_number h.left) && match_each_other h

-- it can be read both ways, is none of the script, and its right side has more nodes
abbrev pub shrinks_back : (of_script : Bool) → Goal → Bool
shrinks_back of_script h = can_read h && can_read (turned h) && not of_script && nat_lt (size_of h.left) (size_of h.right)

-- How a derived hypothesis is read, if it is: an even one forth, in order; else one that shrinks so back; else forth where it can be, or else back.
abbrev pub own_rule : ℕ → (of_script : Bool) → Goal → Option HypothesisRule
own_rule n of_script h =
    if is_even h then Some (read_as n Forth h true)
    else if shrinks_back of_script h then Some (read_as n Back h false)
    else if can_read h then Some (read_as n Forth h false)
    else if can_read (turned h) then Some (read_as n Back h false)
    else None

-- the rules of derived hypotheses, the first of which has this number; it is told which of these were goals of the script
abbrev pub own_rules : (number : ℕ) → (of_script : List Bool) → List Goal → List HypothesisRule
own_rules n bs [] = []
own_rules n [] (h ∷ hs) = or_no_rule (own_rule n false h) (own_rules (n + 1) [] hs)
own_rules n (b ∷ bs) (h ∷ hs) = or_no_rule (own_rule n b h) (own_rules (n + 1) bs hs)

-- where one of so many goals of the script gives way to so many, these are left
abbrev pub script_goals_left : (goals cases : ℕ) → ℕ
script_goals_left zero n = zero
script_goals_left (suc k) n = k + n

-- For each Derive step of a block, whether its goal is of the script, or is a case of such a goal. The goals of the script come before those
-- that are derived, and there are so many.
abbrev pub derived_of_script : Theory → (goals : ℕ) → List (ProofStep Tree) → List Bool
derived_of_script th k [] = []
derived_of_script th k (Simplify c ∷ xs) = derived_of_script th k xs
derived_of_script th k (Reduce w ∷ xs) = derived_of_script th (script_goals_left k 0) xs
derived_of_script th k (Derive ∷ xs) = nat_lt 0 k ∷ derived_of_script th (script_goals_left k 0) xs
derived_of_script th k (Cases u ∷ xs) = derived_of_script th (script_goals_left k (length (constants_of th (sort_of u)))) xs
derived_of_script th k (Done ∷ xs) = derived_of_script th k xs

-- ---- hidden lemmas

-- how a goal of an earlier block is read, if it is hidden: forth, in order where its sides match each other; or else back
abbrev pub lemma_of : Theory → ℕ → Goal → Option HypothesisRule
lemma_of th n g =
    if not (is_hidden th (sort_of g.left)) then None
    else if can_rewrite g then Some (read_as n Forth g (match_each_other g))
    else if can_rewrite (turned g) then Some (read_as n Back g false)
    else None

abbrev pub lemmas_of : Theory → (number : ℕ) → List Goal → List HypothesisRule
lemmas_of th n [] = []
lemmas_of th n (g ∷ gs) = or_no_rule (lemma_of th n g) (lemmas_of th (n + 1) gs)

-- ---- what is taken

-- how a term at a path is replaced, if it is
abbrev pub Taker : Type 0
Taker = (path : List ℕ) → Tree → (budget : ℕ) → Work (Option HypothesisUse)

-- an ordered rule is taken where the new term is below the old one, another where it is another term
abbrev pub may_take : HypothesisRule → (new old : Tree) → Bool
may_take r new old = if r.ordered then is_below new old else not (is_same new old)

-- the side that a rule replaces, and what it makes of a term that this side matches
abbrev pub old_side : HypothesisRule → Tree
old_side r = from_side r.way (sides r.hypothesis)

abbrev pub new_by : HypothesisRule → Tree → Tree
new_by r t = instance (matching (old_side r) t) (to_side r.way (sides r.hypothesis))

module _ (normal : Normaliser) where
  -- a rule on the term t at the path q, where its conditions hold
  abbrev pub rule_use : HypothesisRule → Taker
  rule_use r q t k =
      if matches (old_side r) t && may_take r (new_by r t) t
      then map_found
      (λ passes. use_passing r.number r.way q (terms_by (matching (old_side r) t) (hypothesis_variables r.hypothesis)) passes (new_by r t))
      (tried (Some normal) (matching (old_side r) t) r.hypothesis.conds k)
      else Made None k

  -- the first that is taken
  abbrev pub first_rule_use : List HypothesisRule → Taker
  first_rule_use [] q t k = Made None k
  first_rule_use (r ∷ rs) q t k = or_next (rule_use r q t k) (first_rule_use rs q t)
