use Rattle.std.proofs.Common.{◌≡◌, ◌+◌, ◌*◌, drop}
use Rattle.circ_term.specs.Tree.{depth_of, depths_of, trees_of}
use Rattle.circ_expansion.specs.Expand.{first_path_in}
use Rattle.circ_uses.proofs.fitting.+first_path.Given as goal

abbrev pub decreases-first_path : goal.decreases-first_path
decreases-first_path l = 2 * depth_of l.term.now

abbrev pub decreases-first_path_in : goal.decreases-first_path_in
decreases-first_path_in l = 2 * depths_of (trees_of l.terms.now) + 1

abbrev pub invariant-first_path_in-loop-i : goal.invariant-first_path_in-loop-i
invariant-first_path_in-loop-i l = first_path_in l.number l.i (trees_of (drop l.i l.terms)) ≡ first_path_in l.number 0 (trees_of l.terms)
