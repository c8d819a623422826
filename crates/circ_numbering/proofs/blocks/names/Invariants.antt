use Rattle.std.proofs.Common.{drop}
use Rattle.circ_proof.specs.PlainProof.{plain_names}
use Rattle.circ_plain_search.specs.Numbering.{goal_terms, goal_name}
use Rattle.circ_numbering.proofs.Walks.{IsOnItsWay}
use Rattle.circ_numbering.proofs.blocks.names.Given as goal

abbrev pub invariant-loop-goal : goal.invariant-loop-goal
invariant-loop-goal l = IsOnItsWay goal_terms plain_names goal_name l.fn.table l.goals (drop l.goal-index l.goals) l.table l.names.items
