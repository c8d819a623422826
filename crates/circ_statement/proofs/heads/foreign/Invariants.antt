use Rattle.std.proofs.Common.{◌≡◌, ◌-◌, length}
use Rattle.circ_lexer.specs.TokenList.{tokens_in}
use Rattle.circ_statement.specs.Heads.{follows_prec}
use Rattle.circ_statement.proofs.Spans.{IsRest, seen}
use Rattle.circ_statement.proofs.Foreign.{NoneBelow}
use Rattle.circ_statement.proofs.heads.foreign.Given as goal

abbrev pub invariant-loop-first : goal.invariant-loop-first
invariant-loop-first l = record {
  is_rest : IsRest l.tokens l.fn.inside l.rest;
  flag : l.is_number ≡ follows_prec (tokens_in l.tokens l.fn.inside) (length (seen l.tokens l.fn.inside l.rest));
  none : NoneBelow (tokens_in l.tokens l.fn.inside) (length (seen l.tokens l.fn.inside l.rest));
}

abbrev pub decreases-loop-first : goal.decreases-loop-first
decreases-loop-first l = l.rest.to - l.rest.from
