use Rattle.std.proofs.Common.{◌∙◌, sym}
use Rattle.circ_theory.specs.Operators.{operator_of}
use Rattle.circ_nodes.specs.Named.{tree_at}
use Rattle.circ_forms.proofs.Ways.{joins_told}
use Rattle.circ_forms.proofs.owning.+is_own.Goals as goal

pub is_own-returns-then-sort-decl : goal.is_own-returns-then-sort-decl
is_own-returns-then-sort-decl t c =
    let nodes = c.args.nodes.now in
    let o = operator_of c.args.decl.now in
    let told = joins_told o c.args.op (tree_at nodes c.args.number) _ _ c.in-Some.ensures.2 in
    (λ r. absurd (cc), λ e. absurd (c.if-sort-decl.true (c.sort.ensures ∙ (told.1 e).0)))

pub is_own-returns-else-sort-decl : goal.is_own-returns-else-sort-decl
is_own-returns-else-sort-decl t c =
    let nodes = c.args.nodes.now in
    let o = operator_of c.args.decl.now in
    let told = joins_told o c.args.op (tree_at nodes c.args.number) _ _ c.in-Some.ensures.2 in
    let sort = sym c.sort.ensures ∙ c.if-sort-decl.false in
    (λ r. told.0 (sort, c.may_join.ensures.0 r), λ e. c.may_join.ensures.1 (told.1 e).1)
