use Rattle.std.proofs.Common.{◌≡◌, ◌≤◌, length}
use Rattle.circ_theory.specs.Experiment.{on}
use Rattle.circ_entry.specs.Entries.{bare_entries}
use Rattle.circ_expansion.specs.Expand.{stages}
use Rattle.circ_uses.specs.Uses.{entries_of, first_of}
use Rattle.circ_uses.proofs.Staging.{entries_left}
use Rattle.circ_uses.proofs.starting.experiment.Given as goal

abbrev pub invariant-loop-left : goal.invariant-loop-left
invariant-loop-left l = record {
  most : l.left ≤ length l.entries;
  same : on (entries_left l.theory l.entries l.left) l.here ≡ on (bare_entries (entries_of l.theory l.entries)) l.term;
  limits : first_of (stages (entries_left l.theory l.entries l.left) l.here) ≡ first_of (stages (bare_entries (entries_of l.theory l.entries)) l.term);
}

abbrev pub decreases-loop-left : goal.decreases-loop-left
decreases-loop-left l = l.left
