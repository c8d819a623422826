use Rattle.std.proofs.Common.{map}
use Rattle.circ_proof.specs.PlainProof.{plain_names}
use Rattle.circ_grammar.specs.Grammar.{lines_of, goal_lines}
use Rattle.circ_file.proofs.Written.{IsLeft}
use Rattle.circ_file.proofs.encoding.put_goals.Given as goal

abbrev pub invariant-loop-goal : goal.invariant-loop-goal
invariant-loop-goal l = IsLeft (λ xs. lines_of goal_lines (map plain_names xs)) l.fn.out.items l.out.items l.names l.goal-index
