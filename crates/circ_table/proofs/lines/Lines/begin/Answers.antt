use Rattle.std.proofs.Common.{◌≡◌, ◌+◌, ◌-◌, arith, ap, sym, ◌∙◌, length, refl}
use Rattle.std.proofs.lemmas.Option.{slice_get_read}
use Rattle.circ_table.specs.Lines.{begin_of}
use Rattle.circ_table.proofs.Placing.{begin_zero, begin_next}
use Rattle.circ_table.proofs.lines.Lines.begin.Goals as goal

pub returns-then-place-eq0 : goal.returns-then-place-eq0
returns-then-place-eq0 c =
    let rows = c.args.self.now.rows.items in
    let zeroth : 0 ≡ c.args.place = omega arith in sym (begin_zero 0 rows) ∙ ap (begin_of 0 rows) zeroth

pub returns : goal.returns
returns c =
    let rows = c.args.self.now.rows.items in
    let n = c.args.place - 1 in
    let next : n + 1 ≡ c.args.place = omega arith in
    let read = slice_get_read rows (length rows) n c.index.result.now refl (omega (arith, c.requires)) c.index.ensures in
    sym (begin_next 0 rows n c.index.result.now read (omega (arith, c.requires))) ∙ ap (begin_of 0 rows) next
