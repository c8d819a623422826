use Rattle.std.proofs.Common.{◌≡◌, ◌++◌, drop, map}
use Rattle.circ_proof.specs.PlainProof.{plain_block}
use Rattle.circ_show.specs.GoalsText.{all_goal_lines}
use Rattle.circ_reports.proofs.renewing.put_goals.Given as goal

abbrev pub invariant-loop-block : goal.invariant-loop-block
invariant-loop-block l =
    l.out.items ++ all_goal_lines l.theory.signature (map (λ b. b.goals) (map plain_block (drop l.block-index l.blocks)))
    ≡ l.fn.out.items ++ all_goal_lines l.theory.signature (map (λ b. b.goals) (map plain_block l.blocks))
