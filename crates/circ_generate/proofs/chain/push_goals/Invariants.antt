use Rattle.std.proofs.Common.{◌≡◌, ◌++◌}
use Rattle.circ_generate.specs.Chain.{each_below, goal_text}
use Rattle.circ_generate.proofs.chain.push_goals.Given as goal

abbrev pub invariant-loop-i : goal.invariant-loop-i
invariant-loop-i l = l.out.items ≡ l.fn.out.items ++ each_below goal_text l.i
