use Rattle.std.proofs.Common.{◌≡◌, ◌-◌, false}
use Rattle.circ_statement.specs.Words.{has_word}
use Rattle.circ_statement.proofs.Spans.{IsRest, seen}
use Rattle.circ_statement.proofs.places.split.Given as goal

abbrev pub invariant-loop-first : goal.invariant-loop-first
invariant-loop-first l = record { is_rest : IsRest l.tokens l.span l.rest; lacks : has_word l.word (seen l.tokens l.span l.rest) ≡ false }

abbrev pub decreases-loop-first : goal.decreases-loop-first
decreases-loop-first l = l.rest.to - l.rest.from
