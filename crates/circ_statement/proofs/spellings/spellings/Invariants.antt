use Rattle.std.proofs.Common.{◌-◌, map}
use Rattle.circ_statement.specs.Attributes.{AreSpelled}
use Rattle.circ_statement.specs.Said.{spelled_of}
use Rattle.circ_statement.proofs.Spans.{IsRest, seen}
use Rattle.circ_statement.proofs.spellings.spellings.Given as goal

abbrev pub invariant-loop-first : goal.invariant-loop-first
invariant-loop-first l = record { is_rest : IsRest l.tokens l.fn.front l.rest; spelled : AreSpelled l.given (seen l.tokens l.fn.front l.rest) (map spelled_of l.forms.items) }

abbrev pub decreases-loop-first : goal.decreases-loop-first
decreases-loop-first l = l.rest.to - l.rest.from
