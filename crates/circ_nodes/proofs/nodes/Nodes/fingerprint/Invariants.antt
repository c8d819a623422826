use Rattle.std.proofs.Common.{◌≡◌, map, drop}
use Rattle.circ_term.specs.Tree.{trees_of}
use Rattle.circ_term.specs.Fingerprint.{mixed, fingerprint_after}
use Rattle.circ_nodes.specs.Named.{tree_at}
use Rattle.circ_nodes.proofs.nodes.Nodes.fingerprint.Given as goal

abbrev pub invariant-loop-number : goal.invariant-loop-number
invariant-loop-number l =
    fingerprint_after l.all (trees_of (map (tree_at l.self) (drop l.number-index l.numbers)))
    ≡ fingerprint_after (mixed (mixed 2 l.fn.op) l.fn.sort) (trees_of (map (tree_at l.self) l.numbers))
