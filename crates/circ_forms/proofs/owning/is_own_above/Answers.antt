use Rattle.std.proofs.Common.{◌∙◌, sym, refl}
use Rattle.circ_theory.specs.Operators.{operator_of}
use Rattle.circ_nodes.specs.Named.{tree_at}
use Rattle.circ_forms.proofs.Ways.{alone, joins_told}
use Rattle.circ_forms.proofs.owning.is_own_above.Goals as goal

pub returns-in-None : goal.returns-in-None
returns-in-None c = λ own.
    let whole = alone (operator_of c.args.decl.now) c.args.op (tree_at c.args.nodes.now c.args.number) c.in-None.ensures in
    (λ r. whole, λ e. refl)

pub returns-then-sort-decl : goal.returns-then-sort-decl
returns-then-sort-decl c = λ own.
    let nodes = c.args.nodes.now in
    let o = operator_of c.args.decl.now in
    let told = joins_told o c.args.op (tree_at nodes c.args.number) _ _ c.in-Some.ensures.2 in
    (λ r. absurd (cc), λ e. absurd (c.if-sort-decl.true (c.sort.ensures ∙ (told.1 e).0)))

pub returns-else-sort-decl : goal.returns-else-sort-decl
returns-else-sort-decl c = λ own.
    let nodes = c.args.nodes.now in
    let o = operator_of c.args.decl.now in
    let told = joins_told o c.args.op (tree_at nodes c.args.number) _ _ c.in-Some.ensures.2 in
    let sort = sym c.sort.ensures ∙ c.if-sort-decl.false in
    let joins = c.may_join_above.ensures (own _ _ c.in-Some.ensures.2) in
    (λ r. told.0 (sort, joins.0 r), λ e. joins.1 (told.1 e).1)
