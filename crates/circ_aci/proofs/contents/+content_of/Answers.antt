use Rattle.std.proofs.Common.{◌≡◌, ◌∙◌, List, IfOk, subst}
use Rattle.circ_term.specs.Tree.{Tree}
use Rattle.circ_theory.specs.Operators.{operator_of}
use Rattle.circ_aci.proofs.Finding.{content_of_one, content_of_parts}
use Rattle.circ_aci.proofs.contents.+content_of.Goals as goal

pub returns-then-is_repeated : goal.returns-then-is_repeated
returns-then-is_repeated t c =
    let o = operator_of c.args.decl.now in
    let P : List Tree → Type 0 = λ xs. IfOk c.content_of.result (λ v. v.items ≡ xs) in
    let one = content_of_one o c.args.op c.args.term.now c.in-Some.first.now c.in-Some.second.now c.in-Some.ensures in
    subst P (one c.is_repeated.result c.is_repeated.ensures c.if-is_repeated.true) c.content_of.ensures

pub returns : goal.returns
returns t c =
    let o = operator_of c.args.decl.now in
    let both = content_of_parts o c.args.op c.args.term.now c.in-Some.first.now c.in-Some.second.now c.in-Some.ensures in
    let parts = rw c.new-parts.ensures.items at c.in_ok-push_parts.ensures in
    c.settle.ensures ∙ both c.is_repeated.result c.is_repeated.ensures c.if-is_repeated.false c.push_parts.new.parts.items parts
