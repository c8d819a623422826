use Rattle.std.proofs.Common.{◌≡◌, ◌++◌, drop}
use Rattle.circ_entry.specs.Plain.{plain_entries}
use Rattle.circ_reports.specs.Expand.{entries_named}
use Rattle.circ_reports.proofs.fresh.entries_named.Given as goal

abbrev pub invariant-loop-derivative : goal.invariant-loop-derivative
invariant-loop-derivative l =
    plain_entries l.entries.items ++ entries_named l.theory l.left (drop l.derivative-index l.derivatives) ≡ entries_named l.theory l.numbers l.derivatives
