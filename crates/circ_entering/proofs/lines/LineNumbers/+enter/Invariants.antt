use Rattle.std.proofs.Common.{map, take}
use Rattle.circ_term.specs.Growing.{Grows}
use Rattle.circ_term.specs.Tree.{trees_of}
use Rattle.circ_theory.specs.Rewriting.{named}
use Rattle.circ_nodes.specs.Named.{AreNamed}
use Rattle.circ_entering.specs.Lines.{EntersMore}
use Rattle.circ_entering.proofs.lines.LineNumbers.+enter.Given as goal

abbrev pub decreases-enter : goal.decreases-enter
decreases-enter l = l.line

abbrev pub invariant-loop-arg : goal.invariant-loop-arg
invariant-loop-arg l = record {
  grows : Grows l.fn.nodes l.nodes;
  entered : EntersMore l.table l.fn.nodes l.nodes l.fn.self l.self;
  named : AreNamed l.nodes l.args.items (trees_of (map (named l.table) (take l.arg-index l.below)));
}
