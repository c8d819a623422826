use Rattle.std.proofs.Common.{◌+◌, ◌∙◌, ◌++◌, ◌∷◌, [], length, ap}
use Rattle.circ_table.specs.declared.lines.Lines.{Lines}
use Rattle.circ_table.specs.declared.lines.Row.{Row}
use Rattle.circ_table.proofs.Placing.{pushed}
use Rattle.circ_table.proofs.lines.Lines.push.Goals as goal

pub returns-clause-pushed : goal.returns-clause-pushed
returns-clause-pushed c =
    let l = c.args.self.now in
    let p = c.args.root in
    let new : Lines = record { rows = c.push_reserved.new.self; args = c.extend_from_slice.new.self } in
    let row : Row = record {
      name = p.name;
      sort = p.sort;
      end = c.len.result + length p.args.now;
      size = c.args.size;
      depth = c.args.depth;
      kind = p.kind;
      is_first = c.args.is_first;
    } in
    pushed l new p.args.now row c.requires.lines (ap (λ n. n + length p.args.now) (c.len.ensures ∙ l.args.ok.0)) c.requires.node c.requires.first
    (c.push_reserved.ensures.items ∙ ap (λ rs. rs ++ row ∷ []) c.in_ok-reserve.ensures.items) c.in_ok-extend_from_slice.ensures.items
