-- What the parts of Simplify answer.
use Rattle.std.specs.Prelude.{List, [], ◌∷◌}
use Rattle.circ_theory.specs.Theory.{Pair, goal}
use Rattle.circ_theory.specs.Goal.{Goal}
use Rattle.circ_proof.specs.Rules.{State, state}

-- the sides q take the place of those of the first goal
abbrev pub put_sides_on : (hypotheses goals : List Goal) → (q : Pair) → State
put_sides_on H [] q = state H []
put_sides_on H (g ∷ gs) q = state H (goal g.conds q.left q.right ∷ gs)

abbrev pub put_sides : State → Pair → State
put_sides a q = put_sides_on a.hypotheses a.goals q
