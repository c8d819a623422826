use Rattle.std.proofs.Common.{List, drop, ap, subst, refl}
use Rattle.circ_theory.specs.Goal.{Goal}
use Rattle.circ_plain_search.specs.Search.{Sides, sides_with}
use Rattle.circ_conditional_search.specs.Search.{with_sides_of}
use Rattle.circ_block.specs.Rules.{IsRulesOf}
use Rattle.circ_proof.specs.Plain.{plain_chain}
use Rattle.circ_turn.specs.Standing.{standing, manner_of}
use Rattle.circ_turn.proofs.Turning.{normal_turn_goes}
use Rattle.circ_turn.proofs.search.Search.normal_turn.Goals as goal

pub returns-clause-exact : goal.returns-clause-exact
returns-clause-exact c =
    let n : Sides = sides_with c.args.goal.left c.args.goal.right (plain_chain c.args.chain) c.args.budget in
    let rest : List Goal = drop 1 c.args.state.now.queue.items in
    normal_turn_goes c.args.self.now.theory.now c.args.self.now.gamma.now (manner_of c.args.self.now) (with_sides_of (standing c.args.state.now) c.args.goal rest n)
    c.args.goal rest c.set_hand.new.self.queue.items (standing c.set_hand.new.self) (standing c.sides_turn.new.state) c.sides_turn.result
    c.in_ok-set_hand.ensures refl refl c.sides_turn.ensures.exact

pub returns-clause-rules : goal.returns-clause-rules
returns-clause-rules c =
    let P : List Goal → Type 0 = λ E. IsRulesOf c.args.self.now.theory.now E c.sides_turn.new.rules in
    subst P (ap (λ x. x.earlier) c.in_ok-set_hand.ensures) c.sides_turn.ensures.rules
