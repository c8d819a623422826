use Rattle.std.proofs.Common.{refl}
use Rattle.circ_show.proofs.SortMarks.{tell}
use Rattle.circ_show.proofs.observed.observed.Goals as goal

pub returns : goal.returns
returns c = tell c.args.theory.now c.known.ensures c.observe_more.new.marks.items c.loop-test.ensures.marks (c.loop-test.ensures.closed refl)
