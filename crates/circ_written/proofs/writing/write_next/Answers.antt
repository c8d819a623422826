use Rattle.std.proofs.Common.{sym, subst}
use Rattle.std.specs.Prelude.{OnOk}
use Rattle.circ_written.specs.Writing.{WritesOne}
use Rattle.circ_written.specs.declared.writing.Open.{Open}
use Rattle.circ_written.specs.declared.writing.Open.TheVariants as ahead
use Rattle.circ_written.proofs.Opened.{on_ok, opened_next, ready_written}
use Rattle.circ_written.proofs.writing.write_next.Goals as goal

pub returns-in-Row : goal.returns-in-Row
returns-in-Row c =
    let ns = c.args.nodes.now in
    let old = c.args.ahead.now.items in
    let new = c.open_row.new.ahead.items in
    let rows = c.args.rows.now.items in
    let P : Open → Type 0 = λ o. OnOk c.open_row.result (WritesOne ns o old new rows rows) in
    subst P (sym c.in-Row.is) (on_ok c.open_row.result (opened_next ns (ahead.Row c.in-Row.number c.in-Row.way) old new rows) c.open_row.ensures)

pub returns-in-Parts : goal.returns-in-Parts
returns-in-Parts c =
    let ns = c.args.nodes.now in
    let old = c.args.ahead.now.items in
    let new = c.open_parts.new.ahead.items in
    let rows = c.args.rows.now.items in
    let P : Open → Type 0 = λ o. OnOk c.open_parts.result (WritesOne ns o old new rows rows) in
    subst P (sym c.in-Parts.is) (on_ok c.open_parts.result (opened_next ns (ahead.Parts c.in-Parts.number c.in-Parts.way) old new rows) c.open_parts.ensures)

pub returns-in-Ready : goal.returns-in-Ready
returns-in-Ready c =
    let ns = c.args.nodes.now in
    let old = c.args.ahead.now.items in
    let rows = c.args.rows.now.items in
    let written = c.write_ready.new.rows.items in
    let P : Open → Type 0 = λ o. OnOk c.write_ready.result (WritesOne ns o old old rows written) in
    subst P (sym c.in-Ready.is) (on_ok c.write_ready.result (ready_written ns c.in-Ready.row old rows written) c.write_ready.ensures)
