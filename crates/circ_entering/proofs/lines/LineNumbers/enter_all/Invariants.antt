use Rattle.std.proofs.Common.{take}
use Rattle.std.specs.List.{AllByRecursion}
use Rattle.circ_term.specs.Growing.{Grows}
use Rattle.circ_entering.specs.Lines.{HasOwnNumber, EntersMore}
use Rattle.circ_entering.proofs.lines.LineNumbers.enter_all.Given as goal

abbrev pub invariant-loop-line : goal.invariant-loop-line
invariant-loop-line l = record {
  grows : Grows l.fn.nodes l.nodes;
  entered : EntersMore l.table l.fn.nodes l.nodes l.fn.self l.self;
  own : AllByRecursion (HasOwnNumber l.nodes l.table l.self.numbers.items) (take l.line-index l.lines);
}
