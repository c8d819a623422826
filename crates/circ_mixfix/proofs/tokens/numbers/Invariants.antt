use Rattle.std.proofs.Common.{◌-◌}
use Rattle.circ_lexer.specs.TokenList.{tokens_of}
use Rattle.std.specs.List.{slice_range}
use Rattle.circ_mixfix.specs.Coding.{AreNumbers}
use Rattle.circ_mixfix.specs.WordLists.{GrowsTo}
use Rattle.circ_mixfix.proofs.tokens.numbers.Given as goal

abbrev pub invariant-loop-place : goal.invariant-loop-place
invariant-loop-place l = record {
  numbers : AreNumbers l.words l.out.items (slice_range (tokens_of l.tokens) l.fn.span.from l.place);
  grows : GrowsTo l.initial.words l.words (l.place - l.fn.span.from);
}
