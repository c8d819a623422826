use Rattle.std.proofs.Common.{◌≡◌, ◌∙◌, true, refl, ap, sym, subst}
use Rattle.circ_term.specs.Tree.{Tree}
use Rattle.circ_theory.specs.Operators.{operator_of, has_mark}
use Rattle.circ_aci.specs.Canonical.{join}
use Rattle.circ_merging.proofs.Own.{row_own}
use Rattle.circ_merging.proofs.Sums.{sums}
use Rattle.circ_nodes.specs.Named.{Interns, tree_at}
use Rattle.circ_forms.specs.Named.{trees_at}
use Rattle.circ_forms.proofs.Folded.{row_last}
use Rattle.circ_forms.proofs.merging.merge.Goals as goal

pub take-requires-clause-first : goal.take-requires-clause-first
take-requires-clause-first c =
    let o = operator_of c.args.decl.now in
    let m : has_mark o ≡ true = rw c.requires.assoc refl in
    record {
      there = c.requires.first;
      row = (row_own o c.args.op (tree_at c.args.nodes.now c.args.first) m c.requires.assoc).1 c.requires.first_own;
    }

pub take-requires-clause-second : goal.take-requires-clause-second
take-requires-clause-second c =
    let o = operator_of c.args.decl.now in
    let m : has_mark o ≡ true = rw c.requires.assoc refl in
    record {
      there = c.requires.second;
      row = (row_own o c.args.op (tree_at c.args.nodes.now c.args.second) m c.requires.assoc).1 c.requires.second_own;
    }

pub returns-clause-interns : goal.returns-clause-interns
returns-clause-interns c = λ k.
    let o = operator_of c.args.decl.now in
    let f = c.args.op in
    let nodes = c.args.nodes.now in
    let a = tree_at nodes c.args.first in
    let b = tree_at nodes c.args.second in
    let m : has_mark o ≡ true = rw c.requires.assoc refl in
    let takes = rw c.new-parts.ensures.items at c.in_ok-last.ensures.takes in
    let P : Tree → Type 0 = λ t. Interns c.fold.new.nodes c.fold.result t in
    subst P
    (sym (sums o f k a b m c.requires.assoc c.requires.first_own c.requires.second_own
    ∙ ap (join f o.result) (sym takes.taken)
    ∙ row_last o f (trees_at nodes c.take.new.parts.items) (tree_at nodes c.in_ok-last.last) takes.rest.row))
    c.fold.ensures.interns
