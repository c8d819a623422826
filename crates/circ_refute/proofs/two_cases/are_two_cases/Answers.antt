use Rattle.std.proofs.Common.{ap, sym, ◌∙◌}
use Rattle.circ_term.specs.Tree.{App, trees_of}
use Rattle.circ_refute.specs.PlainRefutation.{are_two_cases}
use Rattle.circ_refute.proofs.Sameness.{first_args, second_args}
use Rattle.circ_refute.proofs.two_cases.are_two_cases.Goals as goal

pub returns-then-not-is_empty : goal.returns-then-not-is_empty
returns-then-not-is_empty c =
    let th = c.args.theory.now in
    let a = c.in-Application-Application in
    sym (ap (λ t. are_two_cases th t c.args.right.now) (sym a.ensures.value) ∙ first_args th a.op a.sort a.args.now c.args.right.now (sym c.is_empty.ensures ∙ c.if-not-is_empty.true))

pub returns-then-not-is_empty-2 : goal.returns-then-not-is_empty-2
returns-then-not-is_empty-2 c =
    let th = c.args.theory.now in
    let a = c.in-Application-Application in
    sym (
    ap (λ t. are_two_cases th t c.args.right.now) (sym a.ensures.value) ∙ ap (are_two_cases th (App a.op a.sort (trees_of a.args.now))) (sym a.ensures'.value)
    ∙ second_args th a.op a.sort a.other a.other_sort a.args.now a.other_args.now (sym c.is_empty.ensures ∙ c.if-not-is_empty.false) (sym c.is_empty-in-Application-Application.ensures ∙ c.if-not-is_empty-2.true)
    )
