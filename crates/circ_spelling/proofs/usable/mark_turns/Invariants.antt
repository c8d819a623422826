use Rattle.std.proofs.Common.{length}
use Rattle.circ_spelling.specs.Usable.{Covers, VariablesMarked}
use Rattle.circ_spelling.proofs.usable.mark_turns.Given as goal

abbrev pub invariant-all : goal.invariant-all
invariant-all l = record {
  covers : Covers l.grammar l.turn l.marks.items;
  variables : VariablesMarked l.grammar.variables.items (length l.grammar.variables.items) l.marks.items;
}
