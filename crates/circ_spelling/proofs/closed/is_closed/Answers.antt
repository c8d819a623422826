use Rattle.circ_spelling.specs.May.{ClosedAt}
use Rattle.circ_spelling.proofs.May.{below_more}
use Rattle.circ_spelling.proofs.closed.is_closed.Goals as goal

pub loop-place-preserved : goal.loop-place-preserved
loop-place-preserved c = below_more (ClosedAt c.args.grammar.now c.args.tokens.now c.args.starts.now) c.loop-place.place c.loop-place.invariant (c.is_closed_at.ensures c.if-not-is_closed_at.false)
