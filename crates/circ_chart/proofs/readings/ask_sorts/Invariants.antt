use Rattle.circ_chart.specs.Reader.{IsReady}
use Rattle.circ_chart.specs.Tops.{AreRead}
use Rattle.circ_chart.proofs.readings.ask_sorts.Given as goal

abbrev pub invariant-loop-sort : goal.invariant-loop-sort
invariant-loop-sort l = record {
  read : AreRead l.reader.grammar.now l.reader.tokens.now l.sorts l.sort-index l.out.items;
  ready : IsReady l.reader l.memo;
}
