use Rattle.std.proofs.Common.{◌≡◌, ◌++◌, length, reverse}
use Rattle.circ_entry.specs.Plain.{plain_entries}
use Rattle.circ_refute.specs.Plain.{entries_by, led_to, HasOrigin}
use Rattle.circ_refute.proofs.Origins.{steps_left}
use Rattle.circ_refute.proofs.refuter.Refuter.entries.Given as goal

abbrev pub invariant-loop-last : goal.invariant-loop-last
invariant-loop-last l = record {
  last : HasOrigin (length l.self.expanded.items) l.last;
  entries : entries_by l.self.theory.now (led_to l.self.theory.now l.self.expanded.items) l.last ++ reverse (plain_entries l.entries.items)
      ≡ entries_by l.self.theory.now (led_to l.self.theory.now l.self.expanded.items) l.fn.origin;
}

abbrev pub decreases-loop-last : goal.decreases-loop-last
decreases-loop-last l = steps_left l.last
