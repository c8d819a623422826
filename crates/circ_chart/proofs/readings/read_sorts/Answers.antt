use Rattle.circ_chart.proofs.readings.read_sorts.Goals as goal

pub ask_sorts-requires-clause-ready : goal.ask_sorts-requires-clause-ready
ask_sorts-requires-clause-ready c = record {
  words = c.requires.words;
  tables = rw (c.deref-2.ensures.value) (rw (c.deref.ensures.value) at c.in_ok-tables.ensures);
  starts = rw (c.deref-3.ensures.value) c.in_ok-starts.ensures;
  levels = c.in_ok-levels.ensures;
  memo = rw (c.in_ok-memo.ensures) tt;
}
