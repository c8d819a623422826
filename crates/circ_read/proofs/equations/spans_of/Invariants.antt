use Rattle.std.proofs.Common.{◌≡◌, ◌++◌, ◌∷◌, drop}
use Rattle.circ_read.specs.Steps.{condition_spans}
use Rattle.circ_read.proofs.equations.spans_of.Given as goal

abbrev pub invariant-loop-cond : goal.invariant-loop-cond
invariant-loop-cond l = l.spans.items ++ condition_spans (drop l.cond-index l.conds) ≡ l.fn.left ∷ l.fn.right ∷ condition_spans l.conds
