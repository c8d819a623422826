use Rattle.std.proofs.Common.{◌≡◌, ◌+◌, ◌*◌, length, take}
use Rattle.circ_term.specs.Tree.{depth_of, depths_of, trees_of}
use Rattle.circ_needs.specs.Needs.{NoneLost}
use Rattle.circ_needs.specs.Owing.{OwesTo}
use Rattle.circ_needs.proofs.walking.Asked.+below.Given as goal

abbrev pub invariant-all_below-loop-i : goal.invariant-all_below-loop-i
invariant-all_below-loop-i l = record {
  same : take l.len l.path ≡ take l.len l.initial.path;
  long : length l.path ≡ length l.initial.path;
  owes : OwesTo l.self (take l.len l.initial.path) l.initial.needs l.needs l.args l.i l.owed;
  kept : NoneLost l.initial.needs l.needs;
}

abbrev pub decreases-below : goal.decreases-below
decreases-below l = 3 * depth_of l.here.now

abbrev pub decreases-all_below : goal.decreases-all_below
decreases-all_below l = 3 * depths_of (trees_of l.args.now) + 2

abbrev pub decreases-arg_below : goal.decreases-arg_below
decreases-arg_below l = 3 * depth_of l.arg.now + 1
