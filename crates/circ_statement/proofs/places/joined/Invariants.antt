use Rattle.std.proofs.Common.{◌≡◌, ◌-◌, ◌++◌}
use Rattle.circ_lexer.specs.TokenList.{tokens_in, IsWithin}
use Rattle.circ_statement.specs.Statement.{joined}
use Rattle.circ_statement.proofs.places.joined.Given as goal

abbrev pub invariant-loop-first : goal.invariant-loop-first
invariant-loop-first l = record { within : IsWithin l.tokens l.rest; same : l.bytes.items ++ joined (tokens_in l.tokens l.rest) ≡ joined (tokens_in l.tokens l.fn.span) }

abbrev pub decreases-loop-first : goal.decreases-loop-first
decreases-loop-first l = l.rest.to - l.rest.from
