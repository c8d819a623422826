use Rattle.std.proofs.Common.{◌≡◌}
use Rattle.circ_contexts.proofs.Gathering.{Gathered}
use Rattle.circ_contexts.proofs.candidates.Means.candidates_by.Given as goal

abbrev pub invariant-loop-place : goal.invariant-loop-place
invariant-loop-place l = record {
  reducer : l.reducer ≡ l.fn.reducer;
  gathered : Gathered l.self.theory.now l.self.budget l.places l.place-index l.found.items;
}
