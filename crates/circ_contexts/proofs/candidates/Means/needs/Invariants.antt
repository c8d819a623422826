use Rattle.std.proofs.Common.{◌≡◌}
use Rattle.circ_contexts.proofs.Needing.{NeedsTo}
use Rattle.circ_contexts.proofs.candidates.Means.needs.Given as goal

abbrev pub invariant-loop-derivative : goal.invariant-loop-derivative
invariant-loop-derivative l = record {
  reducer : l.reducer ≡ l.fn.reducer;
  needs : NeedsTo l.self.theory.now l.self.budget l.start.place l.start.decl.now.result l.derivative l.needs;
}
