use Rattle.std.proofs.Common.{subst}
use Rattle.circ_entry.specs.Plain.{plain_entries}
use Rattle.circ_expansion.specs.Expand.{Spending}
use Rattle.circ_expansion.specs.Pieces.{Pieces}
use Rattle.circ_written.specs.Rows.{unit_limit}
use Rattle.circ_tasks.specs.Tasks.{WritesOut}
use Rattle.circ_expand.proofs.Writings.{same_written}
use Rattle.circ_expand.proofs.writing_out.write_proof.Goals as goal

pub returns : goal.returns
returns c =
    let P : Spending Pieces → Type 0 = λ o. WritesOut o c.write_out.result in
    let q = c.requires in
    subst P (same_written c.args.frame.now c.args.proof.now c.args.goal (plain_entries c.args.entries.now) unit_limit q.table q.gamma q.lists q.book) c.write_out.ensures
