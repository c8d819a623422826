use Rattle.std.proofs.Common.{◌∙◌, [], ◌∷◌, refl, ap, sym}
use Rattle.circ_theory.specs.Operators.{operator_of}
use Rattle.circ_aci.specs.Content.{leaves}
use Rattle.circ_aci.proofs.Finding.{leaves_leaf}
use Rattle.circ_merging.specs.Put.{merged}
use Rattle.circ_nodes.specs.Named.{tree_at}
use Rattle.circ_forms.specs.Taking.{behind}
use Rattle.circ_forms.proofs.Taken.{row_starts, merged_one, merged_same, taken_none, taken_more}
use Rattle.circ_forms.proofs.merging.take_last.Goals as goal

pub returns-then-is_repeated-clause-takes : goal.returns-then-is_repeated-clause-takes
returns-then-is_repeated-clause-takes c =
    let nodes = c.args.nodes.now in
    let o = operator_of c.args.decl.now in
    let f = c.args.op in
    let a = tree_at nodes c.args.first in
    let b = tree_at nodes c.args.second in
    let y = tree_at nodes c.first_in-y.result in
    let starts = row_starts o f b c.requires.second.row ∙ ap (λ x. x ∷ behind (leaves f b)) (sym c.first_in-y.ensures.first) in
    taken_none nodes o f _ c.args.parts.now.items c.args.second
    (ap (λ xs. merged o xs (leaves f b)) (leaves_leaf f a c.requires.alone)
    ∙ ap (merged o (a ∷ [])) starts
    ∙ merged_same o a y (behind (leaves f b)) c.requires.comm (sym c.is_repeated.ensures ∙ c.if-is_repeated.true)
    ∙ sym starts)
    c.requires.second

pub returns-clause-takes : goal.returns-clause-takes
returns-clause-takes c =
    let nodes = c.args.nodes.now in
    let o = operator_of c.args.decl.now in
    let f = c.args.op in
    let a = tree_at nodes c.args.first in
    let b = tree_at nodes c.args.second in
    let y = tree_at nodes c.first_in-y.result in
    let starts = row_starts o f b c.requires.second.row ∙ ap (λ x. x ∷ behind (leaves f b)) (sym c.first_in-y.ensures.first) in
    taken_more nodes o f _ (leaves f b) c.args.parts.now.items c.push.new.self.items c.push.new.self.items c.args.first c.args.second
    c.in_ok-push.ensures.items
    (ap (λ xs. merged o xs (leaves f b)) (leaves_leaf f a c.requires.alone)
    ∙ ap (merged o (a ∷ [])) starts
    ∙ merged_one o a y (behind (leaves f b)) c.requires.comm (sym c.is_repeated.ensures ∙ c.if-is_repeated.false)
    ∙ ap (λ xs. a ∷ xs) (sym starts))
    (taken_none nodes o f (leaves f b) c.push.new.self.items c.args.second refl c.requires.second)
