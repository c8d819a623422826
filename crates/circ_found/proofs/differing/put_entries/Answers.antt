use Rattle.circ_found.proofs.Fitting.{entry_at}
use Rattle.circ_found.proofs.differing.put_entries.Goals as goal

pub put_entry-requires : goal.put_entry-requires
put_entry-requires c = entry_at c.args.theory.now c.args.entries.now c.loop-entry.entry-index c.entry-item.result c.requires c.loop-entry-test.true c.entry-item.is
