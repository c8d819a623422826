use Rattle.std.proofs.Common.{◌≡◌, ◌≤◌, ◌-◌}
use Rattle.circ_lexer.specs.TokenList.{tokens_in}
use Rattle.circ_statement.specs.Outside.{cut_from, parts_at}
use Rattle.circ_statement.proofs.Spans.{IsRest, seen}
use Rattle.circ_statement.proofs.Conditions.{behind}
use Rattle.circ_statement.proofs.outside.cut_outside.Given as goal

abbrev pub invariant-loop-first : goal.invariant-loop-first
invariant-loop-first l = record {
  is_rest : IsRest l.tokens l.span l.rest;
  same : parts_at l.word (tokens_in l.tokens l.span) ≡ behind (seen l.tokens l.span l.rest) (cut_from l.word l.level (tokens_in l.tokens l.rest));
  few : l.level ≤ l.rest.from;
}

abbrev pub decreases-loop-first : goal.decreases-loop-first
decreases-loop-first l = l.rest.to - l.rest.from
