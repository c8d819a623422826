use Rattle.std.proofs.Common.{◌≡◌, ◌++◌, drop, flat_map}
use Rattle.circ_entry.specs.Plain.{plain_entries}
use Rattle.circ_found.specs.Differing.{entry_line}
use Rattle.circ_found.proofs.differing.put_entries.Given as goal

abbrev pub invariant-loop-entry : goal.invariant-loop-entry
invariant-loop-entry l =
    l.out.items ++ flat_map (entry_line l.theory) (plain_entries (drop l.entry-index l.entries))
    ≡ l.fn.out.items ++ flat_map (entry_line l.theory) (plain_entries l.entries)
