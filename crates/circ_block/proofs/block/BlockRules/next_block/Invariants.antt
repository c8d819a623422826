use Rattle.std.proofs.Common.{take}
use Rattle.circ_block.specs.Rules.{IsRulesOf}
use Rattle.circ_block.proofs.block.BlockRules.next_block.Given as goal

abbrev pub invariant-loop-n : goal.invariant-loop-n
invariant-loop-n l = IsRulesOf l.theory (take l.n l.earlier) l.self
