use Rattle.std.proofs.Common.{◌≡◌, ◌<◌, ◌-◌, ◌∙◌, suc, length, refl, ap, sym, arith}
use Rattle.std.proofs.lemmas.Option.{slice_get_read}
use Rattle.circ_nodes.specs.Rows.{begin_of}
use Rattle.circ_nodes.proofs.Laying.{begin_zero, begin_after}
use Rattle.circ_nodes.proofs.rows.Rows.begin.Goals as goal

pub returns-then-place-eq0 : goal.returns-then-place-eq0
returns-then-place-eq0 c =
    let rows = c.args.self.now.rows.items in
    let none : c.args.place ≡ 0 = omega (arith, c.if-place-eq0.true) in
    sym (ap (begin_of 0 rows) none ∙ begin_zero 0 rows)

pub returns : goal.returns
returns c =
    let rows = c.args.self.now.rows.items in
    let n = c.args.place - 1 in
    let within : n < length rows = omega (arith, c.requires, c.if-place-eq0.false) in
    let next : suc n ≡ c.args.place = omega (arith, c.if-place-eq0.false) in
    let read = slice_get_read rows (length rows) n c.index.result.now refl within c.index.ensures in
    sym (ap (begin_of 0 rows) (sym next) ∙ begin_after 0 rows n c.index.result.now read)
