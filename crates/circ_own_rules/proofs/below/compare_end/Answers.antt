use Rattle.std.proofs.Common.{arith}
use Rattle.circ_own_rules.proofs.TermOrder.{more_behind, none_behind}
use Rattle.circ_own_rules.proofs.below.compare_end.Goals as goal

pub returns-then-place-terms : goal.returns-then-place-terms
returns-then-place-terms c = more_behind c.args.terms.now c.args.place (omega arith)

pub returns : goal.returns
returns c = none_behind c.args.terms.now c.args.place (omega arith)
