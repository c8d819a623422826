-- What contracts see of hypotheses: the lists of the goals.
use Rattle.std.specs.Prelude.{◌≡◌, ◌<◌, ◌^◌, ℕ, ◌%◌, ◌==◌, if◌then◌else◌, List, ◌++◌, length, map, take, refl}
use Rattle.std.specs.Coded.{Coded, code_by, coded×, coded_list}
use Rattle.circ_term.specs.Tree.{Tree}
use Rattle.circ_theory.specs.Goal.{Goal}
use Rattle.circ_theory.specs.declared.way.Way.{Way}
use Rattle.circ_theory.specs.declared.way.Way.TheVariants.{Forth, Back}
use Rattle.circ_rewrite.specs.Code.{goal_code}

-- the goals of earlier blocks, and all hypotheses, which begin with them
pub record BlockHypotheses : Type 0 where
  pub earlier : List Goal
  pub all : List Goal

abbrev pub hypotheses_with : (earlier all : List Goal) → BlockHypotheses
hypotheses_with E H = record { earlier = E; all = H }

abbrev pub hypotheses_code : Coded BlockHypotheses
hypotheses_code = code_by (List Goal × List Goal) (coded× (coded_list goal_code) (coded_list goal_code)) (λ h. (h.earlier, h.all)) (λ p. hypotheses_with p.0 p.1) (λ _. refl)

-- of these hypotheses so many are goals of earlier blocks
abbrev pub hypotheses_in : (goals : List Goal) → (count : ℕ) → BlockHypotheses
hypotheses_in H n = hypotheses_with (take n H) H

-- a goal's two sides, as an index has them
abbrev pub both_sides : Goal → Tree × Tree
both_sides g = (g.left, g.right)

-- The indexes have the goals' sides, one behind the other, and the goals are few.
pub record IsIndexed (goals : List Goal) (earlier own : List (Tree × Tree)) : Type 0 where
  pub sides : earlier ++ own ≡ map both_sides goals
  pub few : length goals < 2 ^ 31

-- which side of a hypothesis is found at a place of the index
abbrev pub way_at : (place : ℕ) → Way
way_at n = if n % 2 == 0 then Forth else Back
