use Rattle.std.proofs.Common.{◌++◌, ap, ◌∙◌}
use Rattle.circ_mixfix.proofs.LeastNumbers.{adds_constants, adds_sort, adds_done}
use Rattle.circ_mixfix.proofs.candidates.add_sorts.Goals as goal

pub loop-sort-init : goal.loop-sort-init
loop-sort-init c =
    adds_constants c.args.theory.now.signature c.args.sorts.now c.args.word.now c.args.out.now.items c.extend_from_slice.new.self.items
    (c.in_ok-extend_from_slice.ensures.items ∙ ap (λ xs. c.args.out.now.items ++ xs) c.ops_by_word_and_sort.ensures)

pub loop-sort-preserved : goal.loop-sort-preserved
loop-sort-preserved c =
    let at = c.loop-sort in
    adds_sort c.args.theory.now.signature c.args.sorts.now at.sort-index _ c.args.word.now c.args.out.now.items at.out.items c.extend_from_slice-in-loop-sort.new.self.items c.loop-sort-test.true at.invariant
    (c.in_ok-extend_from_slice-2.ensures.items ∙ ap (λ xs. at.out.items ++ xs) c.ops_by_word_and_sort-in-loop-sort.ensures)

pub returns : goal.returns
returns c = adds_done c.args.theory.now.signature c.args.sorts.now c.loop-sort.sort-index c.args.word.now c.args.out.now.items c.loop-sort.out.items c.loop-sort-test.false c.loop-sort.invariant
