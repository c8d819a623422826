-- What a turn of the search with `--rewrite` adds to a block's steps and hypotheses, and what is known of both.
use Rattle.std.specs.Prelude.{◌≡◌, ◌≤◌, ℕ, ◌+◌, List, [], ◌∷◌, ◌++◌, length, take, drop}
use Rattle.circ_term.specs.Tree.{Tree, sort_of}
use Rattle.circ_theory.specs.Theory.{Theory}
use Rattle.circ_theory.specs.Goal.{Goal}
use Rattle.circ_proof.specs.Rules.{ProofStep, Simplify, Reduce, Derive, Cases, Done}
use Rattle.circ_plain_search.specs.Search.{Standing, constants_of}
use Rattle.circ_attempt.specs.Rules.{script_goals_left}
use Rattle.circ_attempt.specs.Search.{of_script}

-- how many of the steps are Derive
abbrev pub derives_in : List (ProofStep Tree) → ℕ
derives_in [] = 0
derives_in (Simplify c ∷ xs) = derives_in xs
derives_in (Reduce w ∷ xs) = derives_in xs
derives_in (Derive ∷ xs) = derives_in xs + 1
derives_in (Cases u ∷ xs) = derives_in xs
derives_in (Done ∷ xs) = derives_in xs

-- how many goals of the script are left behind the steps, where there were so many
abbrev pub script_left : Theory → (goals : ℕ) → List (ProofStep Tree) → ℕ
script_left th k [] = k
script_left th k (Simplify c ∷ xs) = script_left th k xs
script_left th k (Reduce w ∷ xs) = script_left th (script_goals_left k 0) xs
script_left th k (Derive ∷ xs) = script_left th (script_goals_left k 0) xs
script_left th k (Cases u ∷ xs) = script_left th (script_goals_left k (length (constants_of th (sort_of u)))) xs
script_left th k (Done ∷ xs) = script_left th k xs

-- how many goals of a block's script are left
abbrev pub left_of_script : Theory → Standing → ℕ
left_of_script th st = script_left th (length st.goals) st.steps

-- The block goes on: behind its steps and hypotheses stand these, a hypothesis for each Derive step.
pub record GoesOn (st next : Standing) : Type 0 where
  pub earlier : next.earlier ≡ st.earlier
  pub goals : next.goals ≡ st.goals
  pub more_steps : List (ProofStep Tree)
  pub steps : next.steps ≡ st.steps ++ more_steps
  pub more_hypotheses : List Goal
  pub hypotheses : next.hypotheses ≡ st.hypotheses ++ more_hypotheses
  pub derived : length more_hypotheses ≡ derives_in more_steps

-- The next block begins, and has made no step: the block's goals are earlier ones now, and the earlier ones are the hypotheses.
pub record Begins (st next : Standing) : Type 0 where
  pub earlier : next.earlier ≡ st.earlier ++ st.goals
  pub hypotheses : next.hypotheses ≡ next.earlier
  pub steps : next.steps ≡ []
  pub queue : next.queue ≡ next.goals

-- what a turn does: the block goes on, or the next one begins
pub data Follows (st next : Standing) : Type 0 where
  in_block : GoesOn st next → Follows st next
  to_next : Begins st next → Follows st next

-- The hypotheses are the earlier goals and, behind these, what the block has derived: one for each Derive step.
pub record HasDerived (th : Theory) (st : Standing) : Type 0 where
  pub long : length st.earlier ≤ length st.hypotheses
  pub begins : take (length st.earlier) st.hypotheses ≡ st.earlier
  pub derived : length (of_script th st) ≡ length (drop (length st.earlier) st.hypotheses)
