use Rattle.std.proofs.Common.{mul-le-mul}
use Rattle.circ_auto.proofs.Product.{pairs_closed}
use Rattle.circ_auto.proofs.visits.Walk.known.Goals as goal

pub returns-clause-closed : goal.returns-clause-closed
returns-clause-closed c = pairs_closed c.args.self.now.first.now c.args.self.now.second.now c.known.ensures c.known-2.ensures c.args.self.now.same_letters

pub returns-clause-few : goal.returns-clause-few
returns-clause-few c = mul-le-mul c.known.ensures.few_states c.known-2.ensures.few_states
