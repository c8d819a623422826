use Rattle.circ_spelling.proofs.fill.all_starts.Goals as goal

pub returns : goal.returns
returns c = rw (c.deref.ensures.value) at (c.is_closed.ensures c.if-not-is_closed.false)
