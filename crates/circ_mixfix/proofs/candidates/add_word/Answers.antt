use Rattle.std.proofs.Common.{◌++◌, ap, ◌∙◌}
use Rattle.circ_mixfix.proofs.LeastNumbers.{adds_all}
use Rattle.circ_mixfix.proofs.candidates.add_word.Goals as goal

pub returns-then-all-le-FEW : goal.returns-then-all-le-FEW
returns-then-all-le-FEW c =
    adds_all c.args.theory.now.signature c.args.sorts.now c.args.word.now c.args.out.now.items c.extend_from_slice.new.self.items
    (c.in_ok-extend_from_slice.ensures.items ∙ ap (λ xs. c.args.out.now.items ++ xs) c.ops_by_word-all.ensures)
