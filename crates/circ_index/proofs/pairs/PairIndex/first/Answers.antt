use Rattle.std.proofs.Common.{subst}
use Rattle.circ_index.specs.Keys.{pair_keys}
use Rattle.circ_index.specs.Walking.{pair_seats, IsOnWay}
use Rattle.circ_index.proofs.pairs.PairIndex.first.Goals as goal

pub first_on-requires-clause-way : goal.first_on-requires-clause-way
first_on-requires-clause-way c =
    let x = c.self.inside.finder in
    let a = c.args.a.now in
    let b = c.args.b.now in
    let seats = pair_seats x (pair_keys a b) a b in
    subst (λ ks. IsOnWay x ks seats c.args.from c.in_ok-walk.walk) c.pair_keys.ensures (c.in_ok-walk.ensures seats)
