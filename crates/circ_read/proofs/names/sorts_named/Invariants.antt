use Rattle.std.proofs.Common.{◌≡◌, ◌++◌}
use Rattle.std.specs.Option.{option_map}
use Rattle.circ_theory.specs.Adding.{sort_number}
use Rattle.circ_read.specs.Adding.{all_numbers}
use Rattle.circ_read.proofs.Tokens.{tokens_from}
use Rattle.circ_read.proofs.names.sorts_named.Given as goal

abbrev pub invariant-loop-n : goal.invariant-loop-n
invariant-loop-n l =
    option_map (λ ns. l.sorts.items ++ ns) (all_numbers (sort_number l.theory.signature) (tokens_from l.tokens l.n l.fn.names.to)) ≡ all_numbers (sort_number l.theory.signature) (tokens_from l.tokens l.fn.names.from l.fn.names.to)
