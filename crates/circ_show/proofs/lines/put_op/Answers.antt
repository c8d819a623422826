use Rattle.std.proofs.Common.{ℕ, List, ◌++◌, codes}
use Rattle.circ_theory.specs.Operators.{operator_of}
use Rattle.circ_show.specs.Lines.{declaration, attributes_text}
use Rattle.circ_show.proofs.Steps.{joins, ends}
use Rattle.circ_show.proofs.lines.put_op.Goals as goal

pub returns : goal.returns
returns c =
    let o = c.args.out.now.items in
    let d = operator_of c.args.decl.now in
    let op : List ℕ = codes "op " ++ declaration c.args.theory.now.signature d in
    let i = joins o c.extend_from_slice.new.self.items c.put_declaration.new.out.items (codes "op ") (declaration c.args.theory.now.signature d)
    c.in_ok-extend_from_slice.ensures.items c.in_ok-put_declaration.ensures in
    let n = joins o c.put_declaration.new.out.items c.put_attributes.new.out.items op (attributes_text d) i c.in_ok-put_attributes.ensures in
    ends c.extend_from_slice-2.result o c.put_attributes.new.out.items c.extend_from_slice-2.new.self.items (op ++ attributes_text d) (codes " .\n")
    n c.extend_from_slice-2.ensures.items
