use Rattle.std.proofs.Common.{List, drop, ap, subst, refl}
use Rattle.circ_theory.specs.Goal.{Goal}
use Rattle.circ_plain_search.specs.Search.{Sides, sides_with}
use Rattle.circ_conditional_search.specs.Search.{with_sides_of}
use Rattle.circ_attempt.specs.Search.{going}
use Rattle.circ_block.specs.Rules.{IsRulesOf}
use Rattle.circ_proof.specs.Plain.{plain_chain}
use Rattle.circ_turn.specs.Standing.{standing, manner_of}
use Rattle.circ_rewriting_turn.proofs.Going.{normal_turn_goes_on}
use Rattle.circ_rewriting_turn.proofs.turning.normal_turn.Goals as goal

pub returns-clause-exact : goal.returns-clause-exact
returns-clause-exact c =
    let g : Goal = c.args.normal.0 in
    let n : Sides = sides_with g.left g.right (plain_chain c.args.normal.1) c.args.budget in
    let rest : List Goal = drop 1 c.args.state.now.queue.items in
    normal_turn_goes_on c.args.search.now.theory.now c.args.search.now.gamma.now (manner_of c.args.search.now) (with_sides_of (standing c.args.state.now) g rest n)
    c.args.passed.now g rest c.set_hand.new.self.queue.items (standing c.set_hand.new.self) (going (standing c.sides_turn.new.state) c.sides_turn.new.passed) c.sides_turn.result
    c.in_ok-set_hand.ensures refl refl c.sides_turn.ensures.exact

pub returns-clause-rules : goal.returns-clause-rules
returns-clause-rules c =
    let P : List Goal → Type 0 = λ E. IsRulesOf c.args.search.now.theory.now E c.sides_turn.new.rules in
    subst P (ap (λ x. x.earlier) c.in_ok-set_hand.ensures) c.sides_turn.ensures.rules
