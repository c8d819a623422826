use Rattle.std.proofs.Common.{map, refl}
use Rattle.circ_proof.specs.PlainProof.{plain_names}
use Rattle.circ_grammar.specs.Grammar.{lines_of, goal_lines}
use Rattle.circ_file.proofs.Written.{item_written, all_written}
use Rattle.circ_file.proofs.encoding.put_goals.Goals as goal

pub loop-goal-preserved : goal.loop-goal-preserved
loop-goal-preserved c =
    let at = c.loop-goal in
    item_written (λ xs. lines_of goal_lines (map plain_names xs)) (λ x. goal_lines (plain_names x)) c.args.out.now.items c.args.names.now at.goal-index
    (λ x xs later. refl) at.out.items c.put_goal.new.out.items c.goal-item.result c.loop-goal-test.true c.goal-item.is at.invariant c.in_ok-put_goal.ensures

pub returns : goal.returns
returns c =
    let at = c.loop-goal in
    all_written (λ xs. lines_of goal_lines (map plain_names xs)) (λ x. goal_lines (plain_names x)) c.args.out.now.items c.args.names.now at.goal-index
    (λ later. refl) at.out.items c.loop-goal-test.false at.invariant
