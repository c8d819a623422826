use Rattle.std.proofs.Common.{◌∙◌, ◌∷◌, ap, sym, arith}
use Rattle.circ_theory.specs.Operators.{operator_of}
use Rattle.circ_aci.specs.Content.{leaves}
use Rattle.circ_aci.specs.Row.{first_in}
use Rattle.circ_merging.specs.Put.{merged}
use Rattle.circ_nodes.specs.Named.{tree_at}
use Rattle.circ_forms.specs.Taking.{behind}
use Rattle.circ_forms.proofs.Folded.{push_there}
use Rattle.circ_forms.proofs.Taken.{row_starts, row_parts, merged_in_row, if_more}
use Rattle.circ_forms.proofs.merging.+take_first.Goals as goal

pub take_first-requires : goal.take_first-requires
take_first-requires t c =
    let nodes = c.args.nodes.now in
    let e = c.in-Some.ensures in
    let parts = row_parts (operator_of c.args.decl.now) c.args.op (tree_at nodes c.args.first) _ _ c.requires.first.row e.2 in
    let less = parts.less in (
      omega arith,
      (
        c.requires.comm,
        (
          record { there = e.1; row = parts.rest },
          (c.requires.second, rw c.in_ok-push-in-Some.ensures.items (push_there nodes c.args.parts.now.items c.in-Some.x c.requires.below e.0)),
        ),
      ),
    )

pub returns-in_ok-push-in-Some-clause-takes : goal.returns-in_ok-push-in-Some-clause-takes
returns-in_ok-push-in-Some-clause-takes t c =
    let nodes = c.args.nodes.now in
    let o = operator_of c.args.decl.now in
    let f = c.args.op in
    let e = c.in-Some.ensures in
    let x = tree_at nodes c.in-Some.x in
    let rest = tree_at nodes c.in-Some.rest in
    let other = leaves f (tree_at nodes c.args.second) in
    let parts = row_parts o f (tree_at nodes c.args.first) _ _ c.requires.first.row e.2 in
    let starts = row_starts o f rest parts.rest in
    if_more nodes o f _ _ c.args.parts.now.items c.take_first.new.parts.items c.push.new.self.items c.in-Some.x c.take_first.result
    c.in_ok-push-in-Some.ensures.items
    (ap (λ xs. merged o xs other) (parts.joins ∙ ap (λ xs. x ∷ xs) starts)
    ∙ merged_in_row o x (first_in f rest) (behind (leaves f rest)) other c.requires.comm parts.follows
    ∙ ap (λ xs. x ∷ merged o xs other) (sym starts))
    c.take_first.ensures.takes
