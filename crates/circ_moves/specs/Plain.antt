-- What contracts see of moves.
use Rattle.std.specs.Prelude.{List, [], ◌∷◌, Option, Some, None, map}
use Rattle.circ_aci.specs.Canonical.{join}
use Rattle.circ_content_join.specs.Moves.{Move, Using, Regrouping}
use Rattle.circ_join.specs.Uses.{plain_use}
use Rattle.circ_moves.specs.declared.moves.Move.{Move as TheMove}
use Rattle.circ_moves.specs.declared.moves.Move.TheVariants as the

-- the entries of a regrouping, joined
abbrev pub plain_move : TheMove → Move
plain_move (the.Using hypothesis) = Using (plain_use hypothesis)
plain_move (the.Regrouping op path sort entries) = Regrouping op path.items (join op sort entries.items)

abbrev pub plain_moves : List TheMove → List Move
plain_moves vs = map plain_move vs

-- one move, or none
abbrev pub moves_of : Option TheMove → List Move
moves_of None = []
moves_of (Some v) = plain_move v ∷ []
