use Rattle.std.proofs.Common.{◌≡◌, ◌≤◌}
use Rattle.circ_refute.specs.Plain.{HaveOrigins}
use Rattle.circ_refute.specs.Progress.{conclusion_from, progress, work, HasRoom}
use Rattle.circ_refute.proofs.refuter.Refuter.run.Given as goal

abbrev pub invariant-loop-halt : goal.invariant-loop-halt
invariant-loop-halt l = record {
  theory : l.self.theory ≡ l.fn.self.theory;
  reducer : l.self.reducer ≡ l.fn.self.reducer;
  rewrites : l.self.rewrites ≤ l.fn.self.rewrites;
  derives : l.self.derives ≤ l.fn.self.derives;
  room : HasRoom l.self.theory.now (progress l.self);
  origins : HaveOrigins l.self.expanded.items l.self.queue.items;
  same : conclusion_from l.self.theory.now (progress l.self) ≡ conclusion_from l.fn.self.theory.now (progress l.fn.self);
}

abbrev pub decreases-loop-halt : goal.decreases-loop-halt
decreases-loop-halt l = work (progress l.self)
