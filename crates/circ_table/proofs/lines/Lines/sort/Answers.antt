use Rattle.std.proofs.Common.{arith, ap, sym, ◌∙◌, Some, length, refl, []}
use Rattle.std.specs.Option.{option_map}
use Rattle.std.proofs.lemmas.Option.{slice_get_past, slice_get_read}
use Rattle.circ_term.specs.Tree.{sort_of}
use Rattle.circ_table.specs.Lines.{trees}
use Rattle.circ_table.proofs.Placing.{length_trees, rows_at, own_there, own_sort}
use Rattle.circ_table.proofs.lines.Lines.sort.Goals as goal

pub returns-then-number-len : goal.returns-then-number-len
returns-then-number-len c =
    let l = c.args.self.now in
    let long = length_trees l.args.items [] 0 l.rows.items in
    ap (option_map sort_of) (sym (slice_get_past (trees l) c.args.number (omega (arith, long, c.len.ensures, l.rows.ok.0))))

pub returns : goal.returns
returns c =
    let l = c.args.self.now in
    let r = c.index.result.now in
    let read = slice_get_read l.rows.items (length l.rows.items) c.args.number r refl (omega (arith, c.len.ensures, l.rows.ok.0)) c.index.ensures in
    let k = (rows_at l.args.items [] 0 l.rows.items c.args.number c.args.number r c.requires read (omega arith)).0 in
    sym (ap (option_map sort_of) (own_there k) ∙ ap Some (own_sort k))
