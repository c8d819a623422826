use Rattle.std.proofs.Common.{◌≡◌}
use Rattle.circ_read.specs.Outcomes.{all_added, sort_added}
use Rattle.circ_read.proofs.Tokens.{tokens_from}
use Rattle.circ_read.proofs.sorts.add_sorts.Given as goal

abbrev pub invariant-loop-n : goal.invariant-loop-n
invariant-loop-n l = all_added sort_added l.theory (tokens_from l.tokens l.n l.fn.names.to) ≡ all_added sort_added l.fn.theory (tokens_from l.tokens l.fn.names.from l.fn.names.to)
