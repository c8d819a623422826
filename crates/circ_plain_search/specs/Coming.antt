-- Where the search comes to, turn by turn, and what is known of each such standing.
use Rattle.std.specs.Prelude.{◌≡◌, ◌≤◌, ◌+◌, ◌^◌, List, [], length, Ok}
use Rattle.circ_theory.specs.Theory.{Theory, IsWellSortedGoal}
use Rattle.circ_theory.specs.Goal.{Goal}
use Rattle.circ_special.specs.declared.place.Place.{Place}
use Rattle.circ_theory.specs.Fresh.{fresh_in}
use Rattle.circ_proof.specs.Proof.{step_limit}
use Rattle.circ_plain_search.specs.BlockRules.{HaveNoConditions}
use Rattle.circ_plain_search.specs.Search.{Limits, Standing, turn}

-- From the first standing the search comes to the second, turn by turn.
pub data Comes (th : Theory) (G : List Place) (l : Limits) (first : Standing) : Standing → Type 0 where
  here : Comes th G l first first
  further : (st next : Standing) → Comes th G l first st → turn th G l st ≡ Ok next → Comes th G l first next

-- A standing that a search comes to has few hypotheses and few goals of earlier blocks, which have no conditions, and has made few steps.
pub record IsSmall (st : Standing) : Type 0 where
  pub hypotheses : length st.hypotheses ≤ step_limit
  pub earlier : length st.earlier ≤ step_limit
  pub finished : length st.finished ≤ step_limit
  pub taken : st.taken ≤ step_limit
  pub derives : st.derives ≤ st.made
  pub made : st.made ≤ step_limit
  pub no_conds : HaveNoConditions st.earlier

-- A goal whose derivatives can be made: it is well-sorted and has no conditions, and there is room for the numbers of parameters.
pub record IsReady (th : Theory) (g : Goal) : Type 0 where
  pub sorted : IsWellSortedGoal th g
  pub no_conds : g.conds ≡ []
  pub numbers : fresh_in g + 8 ≤ 2 ^ 32
