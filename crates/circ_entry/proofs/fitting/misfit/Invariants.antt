-- What is left fits the sort that is reached as all fit the first.
use Rattle.std.proofs.Common.{◌≡◌, ◌+◌, drop}
use Rattle.circ_entry.specs.Entries.{first_misfit}
use Rattle.circ_entry.specs.Plain.{plain_entries}
use Rattle.circ_entry.proofs.fitting.misfit.Given as goal

abbrev pub invariant-loop-place : goal.invariant-loop-place
invariant-loop-place l =
    first_misfit l.theory (l.place + 1) l.here (plain_entries (drop l.place l.entries)) ≡ first_misfit l.theory 1 l.fn.sort (plain_entries l.entries)
