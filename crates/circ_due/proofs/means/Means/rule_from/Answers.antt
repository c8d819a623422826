use Rattle.std.proofs.Common.{subst}
use Rattle.circ_nodes.specs.Named.{tree_at}
use Rattle.circ_index.specs.Keys.{rule_keys}
use Rattle.circ_index.specs.Walking.{term_seats, IsOnWay}
use Rattle.circ_due.proofs.means.Means.rule_from.Goals as goal

pub first_fit-requires-clause-way : goal.first_fit-requires-clause-way
first_fit-requires-clause-way c =
    let x = c.args.self.now.finder in
    let t = tree_at c.args.nodes.now c.args.number in
    let seats = term_seats x (rule_keys t) t in
    subst (λ ks. IsOnWay x ks seats c.args.from c.in_ok-walk.walk) c.number_keys-keys.ensures (c.in_ok-walk.ensures seats)
