use Rattle.std.proofs.Common.{◌≡◌, ◌+◌, ◌*◌, ◌++◌, drop, map}
use Rattle.circ_term.specs.Tree.{trees_of, depth_of, depths_of}
use Rattle.circ_expansion.specs.Expand.{paths_in}
use Rattle.circ_uses.specs.Paths.{plain_paths, paths_from}
use Rattle.circ_uses.proofs.paths.+find.Given as goal

abbrev pub decreases-find : goal.decreases-find
decreases-find l = 2 * depth_of l.term.now

abbrev pub decreases-find_in : goal.decreases-find_in
decreases-find_in l = 2 * depths_of (trees_of l.terms.now) + 1

abbrev pub invariant-find_in-loop-i : goal.invariant-find_in-loop-i
invariant-find_in-loop-i l = record {
  kept : l.here.items ≡ l.initial.here.items;
  found : plain_paths l.paths.items
      ++ map (λ p. l.initial.here.items ++ p) (paths_from l.i l.number l.sort (trees_of (drop l.i l.terms)))
      ≡ plain_paths l.initial.paths.items ++ map (λ p. l.initial.here.items ++ p) (paths_in l.number l.sort (trees_of l.terms));
}
