use Rattle.std.proofs.Common.{◌≡◌, List, [], drop, length}
use Rattle.circ_term.specs.Tree.{Tree}
use Rattle.circ_entering.specs.Lines.{HaveNumbers}
use Rattle.circ_entering.proofs.lines.LineNumbers.forget.Given as goal

abbrev pub invariant-loop-line : goal.invariant-loop-line
invariant-loop-line l = record {
  numbers : (nodes table : List Tree) → HaveNumbers nodes table l.fn.self.numbers.items l.lines
      → HaveNumbers nodes table l.self.numbers.items (drop l.line-index l.lines);
  none : l.lines ≡ [] → l.self.numbers.items ≡ l.fn.self.numbers.items;
  count : length l.self.numbers.items ≡ length l.fn.self.numbers.items;
  late : l.self.late ≡ l.fn.self.late;
}
