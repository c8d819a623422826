use Rattle.std.proofs.Common.{◌≡◌, map, drop}
use Rattle.circ_term.specs.Tree.{trees_of}
use Rattle.circ_term.specs.Fingerprint.{mixed, fingerprint_after}
use Rattle.circ_nodes.specs.Named.{tree_at}
use Rattle.circ_nodes.specs.Rows.{changed_args}
use Rattle.circ_nodes.proofs.nodes.Nodes.changed_fingerprint.Given as goal

abbrev pub invariant-loop-i : goal.invariant-loop-i
invariant-loop-i l =
    fingerprint_after l.all (trees_of (map (tree_at l.self) (drop l.i (changed_args l.fn.root))))
    ≡ fingerprint_after (mixed (mixed 2 l.fn.root.op) l.fn.root.sort) (trees_of (map (tree_at l.self) (changed_args l.fn.root)))
