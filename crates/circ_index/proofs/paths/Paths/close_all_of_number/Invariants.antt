use Rattle.std.proofs.Common.{◌≡◌, ◌++◌, drop}
use Rattle.circ_nodes.specs.Named.{tree_at}
use Rattle.circ_index.specs.Paths.{closed_all}
use Rattle.circ_index.proofs.paths.Paths.close_all_of_number.Given as goal

abbrev pub invariant-loop-end : goal.invariant-loop-end
invariant-loop-end l =
    l.closed.items ++ closed_all l.self.branches.keys (tree_at l.nodes l.number) (drop l.end-index l.ends) ≡ closed_all l.self.branches.keys (tree_at l.nodes l.number) l.ends
