use Rattle.std.proofs.Common.{map, ap, length-append, arith}
use Rattle.circ_turn.specs.Standing.{standing, plain_limits}
use Rattle.circ_turn.proofs.Turning.{few_earlier}
use Rattle.circ_turn.proofs.search.Search.done_turn.Goals as goal

pub next_block-requires : goal.next_block-requires
next_block-requires c =
    let x = standing c.step_recorded.new.state in
    let left = rw c.in-Some.is at c.split_first.ensures.cases in
    let later = ap (map (λ v. v.items)) left.0 in
    let few = few_earlier c.args.self.now.theory.now (plain_limits c.args.self.now.limits) (standing c.args.state.now) x c.in-Some.block.now.items (map (λ v. v.items) c.in-Some.later.now)
    c.in-Ok.ensures.exact later c.requires.next in
    omega (arith, few, length-append x.earlier x.goals)
