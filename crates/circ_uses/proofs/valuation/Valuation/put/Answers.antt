use Rattle.std.proofs.Common.{sym}
use Rattle.circ_uses.proofs.Keeping.{filled}
use Rattle.circ_uses.proofs.valuation.Valuation.put.Goals as goal

pub returns-in_ok-insert-in-None : goal.returns-in_ok-insert-in-None
returns-in_ok-insert-in-None c =
    rw (← c.in_ok-term-in-None.ensures.same)
    (filled c.args.self.now.terms.entries c.insert.new.self.entries (record { number = c.args.number; sort = c.args.sort }) c.in_ok-term-in-None.term
    (sym c.in-None.ensures) c.in_ok-insert-in-None.ensures.updates.0)
