use Rattle.circ_grammar.specs.Grammar.{lines_of, given_lines}
use Rattle.circ_file.proofs.Written.{IsLeft}
use Rattle.circ_file.proofs.encoding.put_givens.Given as goal

abbrev pub invariant-loop-left : goal.invariant-loop-left
invariant-loop-left l = IsLeft (λ xs. lines_of given_lines xs) l.fn.out.items l.out.items l.conds l.left-index
