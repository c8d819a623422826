use Rattle.std.proofs.Common.{◌≡◌, ◌+◌, Some, List, length, drop, refl, ap, sym, subst, arith, get_or, []}
use Rattle.std.specs.List.{slice_get}
use Rattle.std.proofs.lemmas.Option.{slice_get_read, slice_get_within, slice_get-get_or, get_or_from_slice_get}
use Rattle.circ_term.specs.Tree.{Tree}
use Rattle.circ_table.proofs.Placing.{length_trees, rows_at, trees_within}
use Rattle.circ_table.proofs.Firsts.{firsts_within}
use Rattle.circ_table.proofs.Measuring.{Measured, measured_more, row_measures, next_first}
use Rattle.circ_table.proofs.open_table.OpenTable.measure.Goals as goal

pub index-row-requires : goal.index-row-requires
index-row-requires c =
    let l = c.self.inside.lines in
    let ns = c.args.args.now in
    let i = c.loop-arg.arg-index in
    let n = get_or ns i 0 in
    let read = sym (get_or_from_slice_get ns i n n (slice_get-get_or ns i 0 c.loop-arg-test.true)) in
    let t = next_first c.args.self.now ns i n c.requires.firsts.0 c.loop-arg.sizes c.loop-arg.depths c.loop-arg-test.true read c.loop-arg.invariant.measured c.requires.firsts.1 in
    let within = slice_get_within c.args.self.now n t.0 t.1 in
    omega (arith, within, length_trees l.args.items [] 0 l.rows.items, ap length c.self.view_is, l.rows.ok.0)

pub loop-arg-preserved : goal.loop-arg-preserved
loop-arg-preserved c =
    let l = c.self.inside.lines in
    let table = c.args.self.now in
    let ns = c.args.args.now in
    let i = c.loop-arg.arg-index in
    let n = get_or ns i 0 in
    let r = c.index-row.result.now in
    let read = sym (get_or_from_slice_get ns i n n (slice_get-get_or ns i 0 c.loop-arg-test.true)) in
    let t = next_first table ns i n c.requires.firsts.0 c.loop-arg.sizes c.loop-arg.depths c.loop-arg-test.true read c.loop-arg.invariant.measured c.requires.firsts.1 in
    let within = slice_get_within table n t.0 t.1 in
    let row = slice_get_read l.rows.items (length l.rows.items) n r refl (omega (arith, within, length_trees l.args.items [] 0 l.rows.items, ap length c.self.view_is)) c.index-row.ensures in
    let k = rw c.self.view_is at (rows_at l.args.items [] 0 l.rows.items n n r c.self.invariant.lines row (omega arith)).0 in
    let own = row_measures t.0 k t.1 in
    let all = measured_more table ns i n c.loop-arg.sizes c.loop-arg.depths r.size r.depth c.loop-arg-test.true read (λ u e. let o = row_measures u k e in (o.0, o.1)) c.loop-arg.invariant.measured in
    record {
      measured = subst (Measured table ns (drop (i + 1) ns) (c.loop-arg.sizes + r.size)) (sym c.max-depths.ensures) all;
      few = omega (arith, own.2, c.loop-arg.invariant.few);
      shallow = omega (arith, own.3, c.loop-arg.invariant.shallow, c.max-depths.ensures);
    }

pub returns-clause-within : goal.returns-clause-within
returns-clause-within c = λ ts e.
    let l = c.self.inside.lines in
    firsts_within c.args.self.now c.args.args.now ts
    (λ n t g. let P : List Tree → Type 0 = λ x. slice_get x n ≡ Some t in trees_within l.args.items l.rows.items n t c.self.invariant.lines (subst P (sym c.self.view_is) g)) e
