use Rattle.std.proofs.Common.{◌≡◌, drop}
use Rattle.circ_term.specs.Tree.{trees_of}
use Rattle.circ_term.specs.Limits.{first_limits}
use Rattle.circ_moves.proofs.row.known.Given as goal

abbrev pub invariant-loop-term : goal.invariant-loop-term
invariant-loop-term l = first_limits (trees_of l.terms) ≡ first_limits (trees_of (drop l.term-index l.terms))
