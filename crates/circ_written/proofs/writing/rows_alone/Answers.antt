use Rattle.std.proofs.Common.{sym, ◌∙◌}
use Rattle.circ_written.specs.Nodes.{rope_at}
use Rattle.circ_written.proofs.Opened.{one_row, no_row}
use Rattle.circ_written.proofs.writing.rows_alone.Goals as goal

pub returns-then-kind_at : goal.returns-then-kind_at
returns-then-kind_at c =
    one_row (rope_at c.args.nodes.now c.args.number) c.in_ok-rows.rows (sym c.kind_at.ensures ∙ c.if-kind_at.true) c.in_ok-rows.ensures

pub returns : goal.returns
returns c = no_row (rope_at c.args.nodes.now c.args.number) (sym c.kind_at.ensures ∙ c.if-kind_at.false)
