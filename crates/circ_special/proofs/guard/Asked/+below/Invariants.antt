use Rattle.std.proofs.Common.{◌≡◌, ℕ, ◌<◌, ◌+◌, ◌*◌, ◌++◌, [], ◌∷◌, Some, length, take}
use Rattle.std.specs.List.{slice_get}
use Rattle.circ_term.specs.Tree.{Tree, depth_of, depths_of, trees_of}
use Rattle.circ_special.specs.Occurrences.{GuardedBelow}
use Rattle.circ_special.proofs.guard.Asked.+below.Given as goal

abbrev pub invariant-all_below-loop-i : goal.invariant-all_below-loop-i
invariant-all_below-loop-i l = record {
  same : take l.len l.path ≡ take l.len l.initial.path;
  long : length l.path ≡ length l.initial.path;
  each : (k : ℕ) (t : Tree) → k < l.i → slice_get l.args k ≡ Some t → GuardedBelow l.self (take l.len l.initial.path ++ k ∷ []) t;
}

abbrev pub decreases-below : goal.decreases-below
decreases-below l = 2 * depth_of l.term.now

abbrev pub decreases-all_below : goal.decreases-all_below
decreases-all_below l = 2 * depths_of (trees_of l.args.now) + 1
