use Rattle.std.proofs.Common.{◌≡◌, ◌+◌, ◌*◌, take}
use Rattle.circ_term.specs.Tree.{trees_of, depth_of, depths_of}
use Rattle.circ_term.proofs.node.+same.Given as goal

abbrev pub decreases-Term::same : goal.decreases-Term::same
decreases-Term::same l = 2 * depth_of l.self.now

abbrev pub decreases-same_all : goal.decreases-same_all
decreases-same_all l = 2 * depths_of (trees_of l.a.now) + 1

abbrev pub invariant-same_all-loop-i : goal.invariant-same_all-loop-i
invariant-same_all-loop-i l = take l.i l.a ≡ take l.i l.b
