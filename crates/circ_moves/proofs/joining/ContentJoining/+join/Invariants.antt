use Rattle.std.proofs.Common.{◌≡◌, ◌≤◌, ◌+◌, ◌*◌}
use Rattle.circ_term.specs.Tree.{trees_of, depth_of, depths_of}
use Rattle.circ_join.specs.Trying.{normaliser_of}
use Rattle.circ_moves.specs.Plain.{plain_moves}
use Rattle.circ_moves.proofs.Joins.{Going}
use Rattle.circ_moves.proofs.joining.ContentJoining.+join.Given as goal

abbrev pub decreases-joins : goal.decreases-joins
decreases-joins l = 4 * depth_of l.a.now + 3

abbrev pub decreases-joins_inside : goal.decreases-joins_inside
decreases-joins_inside l = 4 * depth_of l.a.now + 2

abbrev pub decreases-all_join : goal.decreases-all_join
decreases-all_join l = 4 * depths_of (trees_of l.args.now) + 5

abbrev pub decreases-joins_at : goal.decreases-joins_at
decreases-joins_at l = 4 * depth_of l.arg.now + 4

abbrev pub invariant-all_join-loop-i : goal.invariant-all_join-loop-i
invariant-all_join-loop-i l = record {
  path : l.path.items ≡ l.initial.path.items;
  less : l.budget ≤ l.initial.budget;
  same : l.reducer ≡ l.initial.reducer;
  going : Going (normaliser_of l.initial.reducer) l.self.theory.now.signature l.self.gamma.now l.self.hyps.now.all l.op l.initial.path.items l.args l.others (plain_moves l.initial.moves.items) (plain_moves l.moves.items) l.initial.budget l.i l.budget;
}
