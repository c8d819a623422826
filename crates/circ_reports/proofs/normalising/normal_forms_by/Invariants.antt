use Rattle.std.proofs.Common.{◌≡◌, ◌≤◌, drop}
use Rattle.circ_reports.specs.Reduce.{reduced, reduced_after}
use Rattle.circ_reports.proofs.normalising.normal_forms_by.Given as goal

abbrev pub invariant-loop-term : goal.invariant-loop-term
invariant-loop-term l = record {
  same : reduced_after l.fn.reducer.theory l.results.items l.budget (drop l.term-index l.terms) ≡ reduced l.fn.reducer.theory l.fn.budget l.terms;
  reducer : l.reducer ≡ l.fn.reducer;
  less : l.budget ≤ l.fn.budget;
}
