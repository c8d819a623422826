-- What contracts see of entries.
use Rattle.std.specs.Prelude.{List, map}
use Rattle.circ_entry.specs.Entries.{Written, written_entry}
use Rattle.circ_entry.specs.declared.entries.Entry.{Entry}

abbrev pub plain_entry : Entry → Written
plain_entry e = written_entry e.derivative e.params.items

abbrev pub plain_entries : List Entry → List Written
plain_entries es = map plain_entry es
