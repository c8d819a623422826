use Rattle.std.proofs.Common.{sym, ◌∙◌}
use Rattle.circ_uses.proofs.Keeping.{found-lookup}
use Rattle.circ_uses.proofs.valuation.Valuation.get.Goals as goal

pub returns : goal.returns
returns c = c.get.ensures.value ∙ sym (found-lookup c.args.self.now.terms.entries (record { number = c.args.number; sort = c.args.sort }))
