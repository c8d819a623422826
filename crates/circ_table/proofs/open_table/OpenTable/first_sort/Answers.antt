use Rattle.std.proofs.Common.{arith, ap, sym, ◌∙◌, Some, None, if◌then◌else◌, length, refl, []}
use Rattle.std.specs.Option.{option_map}
use Rattle.std.proofs.lemmas.Option.{slice_get_read}
use Rattle.circ_term.specs.Tree.{sort_of}
use Rattle.circ_table.specs.Table.{first_at}
use Rattle.circ_table.specs.Lines.{trees}
use Rattle.circ_table.proofs.Placing.{length_trees, rows_at, own, own_first, own_sort, first_past}
use Rattle.circ_table.proofs.open_table.OpenTable.first_sort.Goals as goal

pub returns-then-number-len : goal.returns-then-number-len
returns-then-number-len c =
    let l = c.self.inside.lines in
    let long = length_trees l.args.items [] 0 l.rows.items in
    ap (option_map sort_of) (sym (first_past (trees l) c.args.number (omega (arith, long, c.len.ensures, l.rows.ok.0)))) ∙ ap (λ ts. option_map sort_of (first_at ts c.args.number)) c.self.view_is

pub returns-then-row : goal.returns-then-row
returns-then-row c =
    let l = c.self.inside.lines in
    let r = c.index-row.result.now in
    let read = slice_get_read l.rows.items (length l.rows.items) c.args.number r refl (omega (arith, c.len.ensures, l.rows.ok.0)) c.index-row.ensures in
    let k = (rows_at l.args.items [] 0 l.rows.items c.args.number c.args.number r c.self.invariant.lines read (omega arith)).0 in
    sym (ap (option_map sort_of) (own_first k ∙ ap (λ b. if b then Some (own k) else None) c.if-row.true) ∙ ap Some (own_sort k)) ∙ ap (λ ts. option_map sort_of (first_at ts c.args.number)) c.self.view_is

pub returns-else-row : goal.returns-else-row
returns-else-row c =
    let l = c.self.inside.lines in
    let r = c.index-row.result.now in
    let read = slice_get_read l.rows.items (length l.rows.items) c.args.number r refl (omega (arith, c.len.ensures, l.rows.ok.0)) c.index-row.ensures in
    let k = (rows_at l.args.items [] 0 l.rows.items c.args.number c.args.number r c.self.invariant.lines read (omega arith)).0 in
    sym (ap (option_map sort_of) (own_first k ∙ ap (λ b. if b then Some (own k) else None) c.if-row.false)) ∙ ap (λ ts. option_map sort_of (first_at ts c.args.number)) c.self.view_is
