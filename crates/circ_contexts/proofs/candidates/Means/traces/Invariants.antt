use Rattle.std.proofs.Common.{◌≡◌}
use Rattle.circ_contexts.proofs.Dropping.{TracesTo}
use Rattle.circ_contexts.proofs.candidates.Means.traces.Given as goal

abbrev pub invariant-loop-place : goal.invariant-loop-place
invariant-loop-place l = record {
  reducer : l.reducer ≡ l.fn.reducer;
  traces : TracesTo l.self.theory.now l.self.budget l.places l.place-index l.traces.items;
}
