use Rattle.std.proofs.Common.{◌∙◌, sym}
use Rattle.circ_theory.specs.Operators.{operator_of}
use Rattle.circ_aci.proofs.Rows.{row_stands, two_stand}
use Rattle.circ_aci.proofs.row.stands.Goals as goal

pub returns-then-decl : goal.returns-then-decl
returns-then-decl c =
    let o = operator_of c.args.decl.now in
    let told = row_stands o c.args.op c.args.term.now c.in-Some.first.now c.in-Some.second.now c.in-Some.ensures c.if-decl.true in
    (λ r. told.0 (sym c.is_row.ensures ∙ r), λ e. c.is_row.ensures ∙ told.1 e)

pub returns-then-sort-decl : goal.returns-then-sort-decl
returns-then-sort-decl c =
    let o = operator_of c.args.decl.now in
    let told = two_stand o c.args.op c.args.term.now c.in-Some.first.now c.in-Some.second.now c.in-Some.ensures c.if-decl.false in
    (λ r. absurd (cc), λ e. absurd (c.if-sort-decl.true (c.sort.ensures ∙ (told.1 e).0)))

pub returns : goal.returns
returns c =
    let o = operator_of c.args.decl.now in
    let told = two_stand o c.args.op c.args.term.now c.in-Some.first.now c.in-Some.second.now c.in-Some.ensures c.if-decl.false in
    (λ r. told.0 (sym c.sort.ensures ∙ c.if-sort-decl.false, sym c.may_follow.ensures ∙ r), λ e. c.may_follow.ensures ∙ (told.1 e).1)
