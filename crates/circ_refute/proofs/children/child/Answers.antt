use Rattle.std.proofs.Common.{List, refl, ◌∙◌, subst, sym}
use Rattle.std.specs.List.{slice_get}
use Rattle.std.specs.Option.{IfSome}
use Rattle.circ_term.specs.Tree.{Tree, sort_of}
use Rattle.circ_term.specs.Limits.{Builds}
use Rattle.circ_theory.specs.Experiment.{derived}
use Rattle.circ_theory.specs.Fresh.{given_parameters}
use Rattle.circ_refute.proofs.Growing.{fits, built, left_past, right_past}
use Rattle.circ_refute.proofs.children.child.Goals as goal

pub instance-requires : goal.instance-requires
instance-requires c =
    fits c.args.theory.now c.known.ensures c.args.origin.derivative (sort_of c.args.left.now) c.requires.hole c.in-Some.sorts.now (rw c.in-Some.is at c.parameter_sorts.ensures)
    c.args.origin.first c.as_slice.result.now (c.as_slice.ensures.value ∙ c.in_ok-params.ensures) c.args.left.now refl

pub returns-in-Err : goal.returns-in-Err
returns-in-Err c =
    left_past c.args.theory.now c.known.ensures c.args.origin.derivative (sort_of c.args.left.now) c.requires.hole c.in-Some.sorts.now (rw c.in-Some.is at c.parameter_sorts.ensures)
    c.args.origin.first c.as_slice.result.now (c.as_slice.ensures.value ∙ c.in_ok-params.ensures) c.args.origin.parent c.args.left.now c.args.right.now c.in-Err.fault (rw c.in-Err.is at c.instance.ensures)

pub instance-requires-2 : goal.instance-requires-2
instance-requires-2 c =
    fits c.args.theory.now c.known.ensures c.args.origin.derivative (sort_of c.args.left.now) c.requires.hole c.in-Some.sorts.now (rw c.in-Some.is at c.parameter_sorts.ensures)
    c.args.origin.first c.as_slice-2.result.now (c.as_slice-2.ensures.value ∙ c.in_ok-params.ensures) c.args.right.now c.requires.same_sort

pub returns-in-Err-instance : goal.returns-in-Err-instance
returns-in-Err-instance c =
    let th = c.args.theory.now in
    let P : List Tree → Type 0 = λ ps. IfSome (slice_get th.derivatives c.args.origin.derivative) (λ d. Builds c.instance.result (derived d c.args.left.now (given_parameters ps))) in
    let first = subst P (c.as_slice.ensures.value ∙ sym c.as_slice-2.ensures.value) c.instance.ensures in
    right_past th c.known.ensures c.args.origin.derivative (sort_of c.args.left.now) c.requires.hole c.in-Some.sorts.now (rw c.in-Some.is at c.parameter_sorts.ensures)
    c.args.origin.first c.as_slice-2.result.now (c.as_slice-2.ensures.value ∙ c.in_ok-params.ensures) c.args.origin.parent c.args.left.now c.args.right.now c.in-Ok.left c.in-Err-instance.fault
    (rw c.in-Ok.is at first) (rw c.in-Err-instance.is at c.instance-2.ensures)

pub returns : goal.returns
returns c =
    let th = c.args.theory.now in
    let ps = c.in_ok-params.params.items in
    let P : List Tree → Type 0 = λ ps. IfSome (slice_get th.derivatives c.args.origin.derivative) (λ d. Builds c.instance.result (derived d c.args.left.now (given_parameters ps))) in
    let Q : List Tree → Type 0 = λ ps. IfSome (slice_get th.derivatives c.args.origin.derivative) (λ d. Builds c.instance-2.result (derived d c.args.right.now (given_parameters ps))) in
    let first = subst P c.as_slice.ensures.value c.instance.ensures in
    let second = subst Q c.as_slice-2.ensures.value c.instance-2.ensures in
    built th c.known.ensures c.args.origin.derivative (sort_of c.args.left.now) c.requires.hole c.in-Some.sorts.now (rw c.in-Some.is at c.parameter_sorts.ensures)
    c.args.origin.first ps c.in_ok-params.ensures c.args.origin.parent c.args.left.now c.args.right.now c.in-Ok.left c.in-Ok-instance.right
    (rw c.in-Ok.is at first) (rw c.in-Ok-instance.is at second)
