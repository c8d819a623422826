use Rattle.std.proofs.Common.{◌∙◌, length, Some, refl, ap, sym, arith}
use Rattle.std.specs.Prelude.{IsTrue, false}
use Rattle.std.proofs.lemmas.Option.{same_Some, slice_get_read}
use Rattle.circ_table.specs.Lines.{plain}
use Rattle.circ_table.proofs.Placing.{root_size}
use Rattle.circ_table.proofs.lines.Lines.is_here.Goals as goal

pub returns-then-index-size : goal.returns-then-index-size
returns-then-index-size c =
    let l = c.args.self.now in
    let r = c.index.result.now in
    let read = slice_get_read l.rows.items (length l.rows.items) c.args.place r refl c.requires.place c.index.ensures in
    (λ t. absurd (let z : IsTrue false = t in cc), λ e. absurd (let size = root_size l.args.items l.rows.items c.args.place r (plain c.args.root) c.requires.lines read e in omega (arith, size, c.requires.size)))

pub returns : goal.returns
returns c = (
  λ t. c.root.ensures ∙ ap Some (c.same.ensures.0 t),
  λ e. c.same.ensures.1 (same_Some (plain c.root.result) (plain c.args.root) (sym c.root.ensures ∙ e)),
)
