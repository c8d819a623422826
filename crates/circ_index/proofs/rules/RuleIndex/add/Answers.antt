use Rattle.std.proofs.Common.{length, arith, ap}
use Rattle.circ_index.proofs.rules.RuleIndex.add.Goals as goal

pub add_left-requires : goal.add_left-requires
add_left-requires c =
    let x = c.self.inside in
    (x.lefts.items, c.self.invariant.has, omega (arith, c.requires, ap length c.self.view_is))
