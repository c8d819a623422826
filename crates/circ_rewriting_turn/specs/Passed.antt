-- What contracts see of the pairs of sides to which a pass was made: the list, the last pair first.
use Rattle.std.specs.Prelude.{List, [], ◌∷◌, ◌++◌}
use Rattle.circ_term.specs.Tree.{Tree}
use Rattle.circ_attempt.specs.Attempt.{Stood}
use Rattle.circ_rewriting_turn.specs.declared.passed.PassedSides.{PassedSides}

abbrev pub plain_sides : PassedSides → Tree × Tree
plain_sides s = (s.left, s.right)

abbrev pub plain_passed : List PassedSides → Stood
plain_passed [] = []
plain_passed (s ∷ ss) = plain_passed ss ++ plain_sides s ∷ []
