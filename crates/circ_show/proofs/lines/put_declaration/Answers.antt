use Rattle.std.proofs.Common.{ℕ, List, ◌++◌, codes, flat_map}
use Rattle.circ_form.specs.Form.{text_of}
use Rattle.circ_theory.specs.Operators.{operator_of}
use Rattle.circ_show.specs.Lines.{spaced_sort}
use Rattle.circ_show.proofs.Steps.{joins, joins_ok}
use Rattle.circ_show.proofs.lines.put_declaration.Goals as goal

pub returns : goal.returns
returns c =
    let o = c.args.out.now.items in
    let d = operator_of c.args.decl.now in
    let form : List ℕ = text_of d.form in
    let names : List ℕ = flat_map (spaced_sort c.args.theory.now.signature) d.args in
    let result : List ℕ = spaced_sort c.args.theory.now.signature d.result in
    let colon : List ℕ = form ++ codes " :" in
    let arrow : List ℕ = (colon ++ names) ++ codes " ->" in
    let j = joins o c.put_form.new.out.items c.extend_from_slice.new.self.items form (codes " :") (rw c.pieces.ensures at c.in_ok-put_form.ensures)
    c.in_ok-extend_from_slice.ensures.items in
    let k = joins o c.extend_from_slice.new.self.items c.put_names.new.out.items colon names j (rw c.deref.ensures.value at c.in_ok-put_names.ensures) in
    let l = joins o c.put_names.new.out.items c.extend_from_slice-2.new.self.items (colon ++ names) (codes " ->") k c.in_ok-extend_from_slice-2.ensures.items in
    joins_ok c.put_word.result o c.extend_from_slice-2.new.self.items c.put_word.new.out.items arrow result l (rw c.name_of.ensures at c.put_word.ensures)
