use Rattle.circ_theory.specs.Operators.{operator_of}
use Rattle.circ_mixfix.proofs.LeastNumbers.{symbols_least, within_sum}
use Rattle.circ_mixfix.proofs.least.at_least.Goals as goal

pub returns : goal.returns
returns c = λ fits. within_sum c.loop-sort.sum _ _ _ c.loop-sort.invariant (symbols_least c.args.least.now (operator_of c.args.decl.now) fits)
