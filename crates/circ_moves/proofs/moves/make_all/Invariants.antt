use Rattle.std.proofs.Common.{◌≡◌, drop}
use Rattle.circ_content_join.specs.Moves.{make_all}
use Rattle.circ_moves.specs.Plain.{plain_moves}
use Rattle.circ_moves.proofs.moves.make_all.Given as goal

abbrev pub invariant-loop-one : goal.invariant-loop-one
invariant-loop-one l = make_all l.whole (plain_moves (drop l.one-index l.moves)) ≡ make_all l.term (plain_moves l.moves)
