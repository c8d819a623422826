use Rattle.std.proofs.Common.{◌≡◌, ◌≤◌, drop}
use Rattle.circ_refute.specs.PlainRefutation.{refutations}
use Rattle.circ_refute.proofs.refuter.Refuter.refute_block.Given as goal

abbrev pub invariant-loop-goal : goal.invariant-loop-goal
invariant-loop-goal l = record {
  theory : l.self.theory ≡ l.fn.self.theory;
  reducer : l.self.reducer ≡ l.fn.self.reducer;
  rewrites : l.self.rewrites ≤ l.fn.self.rewrites;
  derives : l.self.derives ≤ l.fn.self.derives;
  same : refutations l.fn.self.theory.now l.number l.self.derives l.self.rewrites (drop l.goal-index l.goals)
      ≡ refutations l.fn.self.theory.now l.first l.fn.self.derives l.fn.self.rewrites l.goals;
}
