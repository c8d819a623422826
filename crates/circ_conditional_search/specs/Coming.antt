-- Where the search with conditions comes to, turn by turn, and what is known of each such standing.
use Rattle.std.specs.Prelude.{◌≡◌, ◌≤◌, ◌+◌, ◌^◌, List, length, Ok}
use Rattle.std.specs.List.{AllByRecursion}
use Rattle.circ_theory.specs.Fresh.{fresh_in}
use Rattle.circ_theory.specs.Limits.{condition_limit}
use Rattle.circ_theory.specs.Theory.{Theory, IsWellSortedGoal}
use Rattle.circ_theory.specs.Goal.{Goal}
use Rattle.circ_special.specs.declared.place.Place.{Place}
use Rattle.circ_proof.specs.Proof.{step_limit}
use Rattle.circ_plain_search.specs.Search.{Standing}
use Rattle.circ_conditional_search.specs.Search.{Manner, turn_trying}

-- From the first standing the search comes to the second, turn by turn.
pub data ComesTrying (th : Theory) (G : List Place) (m : Manner) (first : Standing) : Standing → Type 0 where
  here : ComesTrying th G m first first
  further : (st next : Standing) → ComesTrying th G m first st → turn_trying th G m st ≡ Ok next → ComesTrying th G m first next

-- a goal has at most eight conditions
abbrev pub HasFewConditions : Goal → Type 0
HasFewConditions g = length g.conds ≤ condition_limit

-- A standing that a search comes to has few hypotheses and few goals of earlier blocks, its goals have few conditions, and it has made few steps.
pub record IsSmallTrying (st : Standing) : Type 0 where
  pub hypotheses : length st.hypotheses ≤ step_limit
  pub earlier : length st.earlier ≤ step_limit
  pub finished : length st.finished ≤ step_limit
  pub taken : st.taken ≤ step_limit
  pub derives : st.derives ≤ st.made
  pub made : st.made ≤ step_limit
  pub few_conds : AllByRecursion HasFewConditions st.queue

-- A goal whose derivatives can be made: it is well-sorted and has few conditions, and there is room for the numbers of parameters.
pub record IsReadyTrying (th : Theory) (g : Goal) : Type 0 where
  pub sorted : IsWellSortedGoal th g
  pub few_conds : HasFewConditions g
  pub numbers : fresh_in g + 8 ≤ 2 ^ 32
