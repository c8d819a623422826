use Rattle.std.proofs.Common.{◌≡◌, ℕ, ◌<◌, ◌+◌, ◌*◌, Some}
use Rattle.std.specs.List.{slice_get}
use Rattle.circ_term.specs.Tree.{Tree, depth_of, depths_of, trees_of}
use Rattle.circ_needs.specs.Observing.{Adds, IsArgFound}
use Rattle.circ_needs.proofs.observers.+gather.Given as goal

abbrev pub invariant-gather_all-loop-arg : goal.invariant-gather_all-loop-arg
invariant-gather_all-loop-arg l = record {
  adds : Adds l.initial.looks.entries l.looks.entries;
  each : (k : ℕ) (t : Tree) → k < l.arg-index → slice_get l.args k ≡ Some t → IsArgFound l.op l.look l.looks.entries t;
}

abbrev pub decreases-gather : goal.decreases-gather
decreases-gather l = 3 * depth_of l.subterm.now

abbrev pub decreases-gather_all : goal.decreases-gather_all
decreases-gather_all l = 3 * depths_of (trees_of l.args.now) + 2

abbrev pub decreases-gather_arg : goal.decreases-gather_arg
decreases-gather_arg l = 3 * depth_of l.arg.now + 1
