use Rattle.circ_keeping.proofs.Entered.{AreEntered}
use Rattle.circ_keeping.proofs.keeping.keep.Given as goal

abbrev pub invariant-loop-part : goal.invariant-loop-part
invariant-loop-part l = AreEntered l.fn.nodes l.count l.number l.part-index l.marks.items l.moved.items l.nodes
