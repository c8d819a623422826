use Rattle.circ_mixfix.specs.declared.few.Few.TheVariants.{Two}
use Rattle.circ_mixfix.proofs.FewSets.{same_again, one_before, enough_two, Same}
use Rattle.circ_mixfix.proofs.few.with_reading.Goals as goal

pub returns-in-Equal : goal.returns-in-Equal
returns-in-Equal c =
    rw c.in-One.is (same_again c.in-One.first c.args.reading c.deref.result.now c.deref-in-One.result.now c.deref.ensures.value c.deref-in-One.ensures.value c.in-Equal.ensures)

pub returns-in-Greater : goal.returns-in-Greater
returns-in-Greater c =
    rw c.in-One.is (one_before c.in-One.first c.args.reading c.deref.result.now c.deref-in-One.result.now c.deref.ensures.value c.deref-in-One.ensures.value c.in-Greater.ensures)

pub returns-in-Two : goal.returns-in-Two
returns-in-Two c = rw c.in-Two.is (enough_two (Two c.in-Two.first c.in-Two.second) (Same c.args.reading) tt (rw c.in-Two.is at c.requires))
