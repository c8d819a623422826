use Rattle.std.proofs.Common.{◌≡◌, drop}
use Rattle.circ_term.specs.Tree.{sort_of}
use Rattle.circ_theory.specs.Experiment.{on}
use Rattle.circ_entry.specs.Entries.{FitsWritten, written_entries}
use Rattle.circ_entry.specs.Plain.{plain_entries}
use Rattle.circ_reports.proofs.rows.term_on.Given as goal

abbrev pub invariant-loop-entry : goal.invariant-loop-entry
invariant-loop-entry l = record {
  same : on (written_entries l.theory (plain_entries (drop l.entry-index l.entries))) l.here ≡ on (written_entries l.theory (plain_entries l.entries)) l.term;
  fits : FitsWritten l.theory (plain_entries (drop l.entry-index l.entries)) (sort_of l.here);
}
