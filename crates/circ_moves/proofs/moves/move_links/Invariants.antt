use Rattle.std.proofs.Common.{◌≡◌, map, ◌++◌}
use Rattle.circ_content_join.specs.Moves.{move_link}
use Rattle.circ_proof.specs.Plain.{plain_links}
use Rattle.circ_moves.specs.Plain.{plain_moves}
use Rattle.circ_moves.proofs.moves.move_links.Given as goal

abbrev pub invariant-loop-one : goal.invariant-loop-one
invariant-loop-one l = plain_links l.links.items ++ map move_link (plain_moves l.one-iterator.rest.items) ≡ map move_link (plain_moves l.fn.moves.items)
