use Rattle.std.proofs.Common.{◌-◌, Some, take, drop, arith, ap, sym, ◌∙◌, length, refl, []}
use Rattle.std.proofs.lemmas.Option.{slice_get_read}
use Rattle.circ_table.specs.Lines.{row_root}
use Rattle.circ_table.proofs.Placing.{rows_at, roots_at, with_args}
use Rattle.circ_table.proofs.lines.Lines.root.Goals as goal

pub part-requires-clause-start : goal.part-requires-clause-start
part-requires-clause-start c =
    let l = c.args.self.now in
    let r = c.index-row.result.now in
    let read = slice_get_read l.rows.items (length l.rows.items) c.args.place r refl c.requires.place c.index-row.ensures in
    let k = rows_at l.args.items [] 0 l.rows.items c.args.place c.args.place r c.requires.lines read (omega arith) in
    omega (arith, k.1, c.begin-start.ensures)

pub part-requires-clause-end : goal.part-requires-clause-end
part-requires-clause-end c =
    let l = c.args.self.now in
    let r = c.index-row.result.now in
    let read = slice_get_read l.rows.items (length l.rows.items) c.args.place r refl c.requires.place c.index-row.ensures in
    let k = rows_at l.args.items [] 0 l.rows.items c.args.place c.args.place r c.requires.lines read (omega arith) in
    omega (arith, k.2, ap length c.as_slice.ensures.value)

pub returns : goal.returns
returns c =
    let l = c.args.self.now in
    let r = c.index-row.result.now in
    let start = c.begin-start.result in
    let read = slice_get_read l.rows.items (length l.rows.items) c.args.place r refl c.requires.place c.index-row.ensures in
    roots_at l.args.items 0 l.rows.items c.args.place r read
    ∙ ap (λ s. Some (row_root l.args.items s r)) (sym c.begin-start.ensures)
    ∙ ap (λ ns. Some (with_args r ns)) (ap (λ xs. take (r.end - start) (drop start xs)) (sym c.as_slice.ensures.value) ∙ sym c.part.ensures)
