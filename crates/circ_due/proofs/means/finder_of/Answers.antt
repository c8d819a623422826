use Rattle.std.proofs.Common.{map, take, arith}
use Rattle.std.proofs.lemmas.List.{length-map, length-take}
use Rattle.circ_due.specs.Chosen.{left_side}
use Rattle.circ_due.proofs.means.finder_of.Goals as goal

pub add_left-requires : goal.add_left-requires
add_left-requires c =
    let rules = c.args.rules.now in
    let i = c.loop-rule.rule-index in
    (map left_side (take i rules), c.loop-rule.invariant, omega (arith, length-map (take i rules) left_side, length-take i rules, c.loop-rule-test.true, c.requires))
