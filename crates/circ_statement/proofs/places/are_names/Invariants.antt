use Rattle.std.proofs.Common.{◌≡◌, ◌-◌}
use Rattle.circ_lexer.specs.TokenList.{tokens_in, IsWithin}
use Rattle.circ_statement.specs.Words.{are_names}
use Rattle.circ_statement.proofs.places.are_names.Given as goal

abbrev pub invariant-loop-first : goal.invariant-loop-first
invariant-loop-first l = record { within : IsWithin l.tokens l.rest; same : are_names (tokens_in l.tokens l.fn.span) ≡ are_names (tokens_in l.tokens l.rest) }

abbrev pub decreases-loop-first : goal.decreases-loop-first
decreases-loop-first l = l.rest.to - l.rest.from
