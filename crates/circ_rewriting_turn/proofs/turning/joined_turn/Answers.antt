use Rattle.std.proofs.Common.{[], drop, sym, subst}
use Rattle.std.specs.Option.{option_map}
use Rattle.circ_attempt.specs.Attempt.{Stood}
use Rattle.circ_attempt.specs.Search.{going, join_turn_rewriting}
use Rattle.circ_moves.specs.Plain.{plain_moves}
use Rattle.circ_turn.specs.Standing.{standing, manner_of}
use Rattle.circ_rewriting_turn.specs.Going.{TurnsTo}
use Rattle.circ_rewriting_turn.proofs.turning.joined_turn.Goals as goal

pub returns-in-Some-clause-exact : goal.returns-in-Some-clause-exact
returns-in-Some-clause-exact c =
    let r = join_turn_rewriting c.args.search.now.theory.now c.args.search.now.gamma.now (manner_of c.args.search.now) c.args.passed.now c.args.goal.now
    (drop 1 c.args.state.now.queue.items) (option_map (λ v. plain_moves v.items) c.args.joined) (standing c.args.state.now) in
    let P : Stood → Type 0 = λ q. TurnsTo r (going (standing c.move_turn.new.state) q) c.move_turn.result in
    subst P (sym c.clear.ensures) (rw c.in-Some.is (c.move_turn.ensures c.args.passed.now))
