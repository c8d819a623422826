use Rattle.std.proofs.Common.{subst}
use Rattle.circ_index.specs.Keys.{term_keys}
use Rattle.circ_index.specs.Walking.{term_seats, IsOnWay}
use Rattle.circ_index.proofs.rules.RuleIndex.first.Goals as goal

pub first_on-requires-clause-way : goal.first_on-requires-clause-way
first_on-requires-clause-way c =
    let x = c.self.inside.finder in
    let t = c.args.term.now in
    let seats = term_seats x (term_keys t) t in
    subst (λ ks. IsOnWay x ks seats c.args.from c.in_ok-walk.walk) c.term_keys.ensures (c.in_ok-walk.ensures seats)
