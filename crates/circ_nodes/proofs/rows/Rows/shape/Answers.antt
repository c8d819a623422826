use Rattle.std.proofs.Common.{◌≡◌, ◌-◌, ◌∙◌, take, drop, if◌then◌else◌, length, Some, refl, ap, sym, arith}
use Rattle.std.proofs.lemmas.Option.{slice_get_read}
use Rattle.circ_nodes.specs.Rows.{variable, application, begin_of, row_args}
use Rattle.circ_nodes.proofs.Laying.{roots_at, laid_at}
use Rattle.circ_nodes.proofs.rows.Rows.shape.Goals as goal

pub returns-then-row : goal.returns-then-row
returns-then-row c =
    let l = c.args.self.now in
    let rows = l.rows.items in
    let n = c.args.number in
    let r = c.index-row.result.now in
    let read = slice_get_read rows (length rows) n r refl c.requires.there c.index-row.ensures in
    let own = row_args l.args.items (begin_of 0 rows n) r in
    roots_at l.args.items 0 rows n r read ∙ ap (λ b. Some (if b then variable r.name r.sort else application r.name r.sort own)) c.if-row.true

pub part-requires-clause-start : goal.part-requires-clause-start
part-requires-clause-start c =
    let l = c.args.self.now in
    let rows = l.rows.items in
    let r = c.index-row.result.now in
    let read = slice_get_read rows (length rows) c.args.number r refl c.requires.there c.index-row.ensures in
    let laid = laid_at 0 rows (length l.args.items) c.args.number r c.requires.rows read in
    omega (arith, laid.0, c.begin.ensures)

pub part-requires-clause-end : goal.part-requires-clause-end
part-requires-clause-end c =
    let l = c.args.self.now in
    let rows = l.rows.items in
    let r = c.index-row.result.now in
    let read = slice_get_read rows (length rows) c.args.number r refl c.requires.there c.index-row.ensures in
    let laid = laid_at 0 rows (length l.args.items) c.args.number r c.requires.rows read in
    omega (arith, laid.1, ap length c.as_slice.ensures.value)

pub returns : goal.returns
returns c =
    let l = c.args.self.now in
    let rows = l.rows.items in
    let n = c.args.number in
    let r = c.index-row.result.now in
    let read = slice_get_read rows (length rows) n r refl c.requires.there c.index-row.ensures in
    let own = row_args l.args.items (begin_of 0 rows n) r in
    let args : c.part.result.now ≡ own =
    c.part.ensures ∙ ap (λ xs. take (r.end - c.begin.result) (drop c.begin.result xs)) c.as_slice.ensures.value
    ∙ ap (λ s. take (r.end - s) (drop s l.args.items)) c.begin.ensures in
    roots_at l.args.items 0 rows n r read ∙ ap (λ b. Some (if b then variable r.name r.sort else application r.name r.sort own)) c.if-row.false
    ∙ ap (λ xs. Some (application r.name r.sort xs)) (sym args)
