use Rattle.std.proofs.Common.{◌≡◌, ◌++◌, map, drop}
use Rattle.circ_theory.specs.Theory.{Theory}
use Rattle.circ_entry.specs.Entries.{numbered_entries}
use Rattle.circ_entry.specs.Plain.{plain_entries}
use Rattle.circ_uses.specs.Uses.{held_by}
use Rattle.circ_expand.proofs.opening.held_all.Given as goal

abbrev pub invariant-loop-entry : goal.invariant-loop-entry
invariant-loop-entry l =
    (th : Theory) → map (λ h. held_by th h.value) l.all.items ++ numbered_entries th (plain_entries (drop l.entry-index l.entries))
    ≡ numbered_entries th (plain_entries l.entries)
