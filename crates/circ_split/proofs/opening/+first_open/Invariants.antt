use Rattle.std.proofs.Common.{◌≡◌, ◌+◌, ◌*◌, drop}
use Rattle.circ_term.specs.Tree.{trees_of, depth_of, depths_of}
use Rattle.circ_plain_search.specs.Joining.{first_open_in}
use Rattle.circ_split.proofs.opening.+first_open.Given as goal

abbrev pub decreases-first_open : goal.decreases-first_open
decreases-first_open l = 2 * depth_of l.term.now

abbrev pub decreases-first_open_in : goal.decreases-first_open_in
decreases-first_open_in l = 2 * depths_of (trees_of l.terms.now) + 1

abbrev pub invariant-first_open_in-loop-term : goal.invariant-first_open_in-loop-term
invariant-first_open_in-loop-term l = first_open_in l.theory (trees_of (drop l.term-index l.terms)) ≡ first_open_in l.theory (trees_of l.terms)
