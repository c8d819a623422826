use Rattle.std.proofs.Common.{◌≤◌, map, nat_eq, length, refl, sym, subst, arith}
use Rattle.std.specs.Cmp.Lexicographic.{as_long}
use Rattle.std.proofs.lemmas.List.{length-map}
use Rattle.circ_term.specs.Tree.{Tree, sort_of}
use Rattle.circ_theory.specs.Limits.{argument_limit}
use Rattle.circ_theory.specs.Signature.{IsWellSorted}
use Rattle.circ_theory.specs.Operators.{operator_of}
use Rattle.circ_theory.proofs.Rewriting.{contains_at}
use Rattle.circ_theory.proofs.Sorted.{have_sorts_of}
use Rattle.circ_theory.proofs.theories.Theory.app.Goals as goal

pub app-requires : goal.app-requires
app-requires c =
    let o = operator_of c.in-Some.decl.now in
    let few : length o.args ≤ argument_limit = ((rw c.self.view_is at c.self.invariant.well_formed).operators o (contains_at c.args.self.now.signature.ops c.args.op o (sym c.in-Some.ensures))).few in
    let same = rw (c.as_slice.ensures.value, c.as_slice-2.ensures.value) at c.if-not-are_of_sorts.ensures in
    let long = as_long nat_eq (map sort_of c.args.args.items) c.in-Some.decl.now.args.items (sym same) in
    omega (arith, length-map c.args.args.items sort_of)

pub returns-in-Ok-clause-well_sorted : goal.returns-in-Ok-clause-well_sorted
returns-in-Ok-clause-well_sorted c = λ a.
    let sig = c.args.self.now.signature in
    let o = operator_of c.in-Some.decl.now in
    let same = rw (c.as_slice.ensures.value, c.as_slice-2.ensures.value) at c.if-not-are_of_sorts.ensures in
    let P : Tree → Type 0 = IsWellSorted sig in
    subst P (sym c.in-Ok.ensures.0) (o, sym c.in-Some.ensures, refl, have_sorts_of sig c.args.args.items o.args (sym same) a)
