use Rattle.std.proofs.Common.{◌≡◌, drop, Some}
use Rattle.circ_term.specs.Tree.{at, walk}
use Rattle.circ_term.proofs.node.Term.at.Given as goal

abbrev pub invariant-loop-place : goal.invariant-loop-place
invariant-loop-place l = walk (Some l.here) (drop l.place-index l.path) ≡ at l.self l.path
