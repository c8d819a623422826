use Rattle.std.proofs.Common.{◌≡◌, ◌∷◌, List, drop, sym, subst, refl}
use Rattle.circ_term.proofs.Within.{drop_read}
use Rattle.circ_theory.specs.Theory.{Pair, goal as goal_with}
use Rattle.circ_theory.specs.Goal.{Goal}
use Rattle.circ_plain_search.specs.Search.{sides_with, Sides}
use Rattle.circ_conditional_search.specs.Coming.{IsReadyTrying}
use Rattle.circ_attempt.specs.Search.{going, goal_turn_rewriting}
use Rattle.circ_proof.specs.Plain.{plain_chain}
use Rattle.circ_turn.specs.Ending.{EndsAs}
use Rattle.circ_turn.specs.Standing.{standing, plain_limits, manner_of}
use Rattle.circ_turn.proofs.Turning.{each_front, part_ends}
use Rattle.circ_rewriting_turn.specs.Going.{TurnsTo}
use Rattle.circ_rewriting_turn.proofs.Going.{goal_turn_goes_on}
use Rattle.circ_rewriting_turn.proofs.turning.goal_turn.Goals as goal

pub normal_turn-requires-clause-ready : goal.normal_turn-requires-clause-ready
normal_turn-requires-clause-ready c =
    let Q : List Goal = c.args.state.now.queue.items in
    let front : Q ≡ c.in-Some.hand.now ∷ drop 1 Q = drop_read Q 0 c.in-Some.hand.now c.in-Some.ensures.item.3.0 c.in-Some.ensures.lookup in
    let h = rw c.in-Ok.is at (c.normal_goal.ensures.exact c.args.state.now.hyps.earlier c.requires.rules) in
    let n : Sides = sides_with c.in-Ok.goal.left c.in-Ok.goal.right (plain_chain c.in-Ok.chain) c.normal_goal.new.budget in
    let P : List Pair → Type 0 = λ A. IsReadyTrying c.args.search.now.theory.now (goal_with A c.in-Ok.goal.left c.in-Ok.goal.right) in
    subst P (sym h.0) (c.requires.ready c.in-Some.hand.now (drop 1 Q) n front h.1)

pub returns-in-Err-clause-exact : goal.returns-in-Err-clause-exact
returns-in-Err-clause-exact c =
    let Q : List Goal = c.args.state.now.queue.items in
    let front : Q ≡ c.in-Some.hand.now ∷ drop 1 Q = drop_read Q 0 c.in-Some.hand.now c.in-Some.ensures.item.3.0 c.in-Some.ensures.lookup in
    let h = rw c.in-Err.is at (c.normal_goal.ensures.exact c.args.state.now.hyps.earlier c.requires.rules) in
    each_front Q c.in-Some.hand.now
    (λ g rest. EndsAs (goal_turn_rewriting c.args.search.now.theory.now c.args.search.now.gamma.now (manner_of c.args.search.now) (standing c.args.state.now) c.args.passed.now g rest) c.end.result) front
    (rw c.end.ensures (part_ends (plain_limits c.args.search.now.limits) (standing c.args.state.now) c.in-Err.stop _ _ h))

pub returns-in-Ok-clause-exact : goal.returns-in-Ok-clause-exact
returns-in-Ok-clause-exact c =
    let th = c.args.search.now.theory.now in
    let G = c.args.search.now.gamma.now in
    let m = manner_of c.args.search.now in
    let Q : List Goal = c.args.state.now.queue.items in
    let front : Q ≡ c.in-Some.hand.now ∷ drop 1 Q = drop_read Q 0 c.in-Some.hand.now c.in-Some.ensures.item.3.0 c.in-Some.ensures.lookup in
    let h = rw c.in-Ok.is at (c.normal_goal.ensures.exact c.args.state.now.hyps.earlier c.requires.rules) in
    let n : Sides = sides_with c.in-Ok.goal.left c.in-Ok.goal.right (plain_chain c.in-Ok.chain) c.normal_goal.new.budget in
    let y = going (standing c.normal_turn.new.state) c.normal_turn.new.passed in
    each_front Q c.in-Some.hand.now (λ g rest. TurnsTo (goal_turn_rewriting th G m (standing c.args.state.now) c.args.passed.now g rest) y c.normal_turn.result) front
    (goal_turn_goes_on th G m (standing c.args.state.now) c.args.passed.now c.in-Some.hand.now (drop 1 Q) c.in-Ok.goal n y c.normal_turn.result h.1 h.0 refl refl c.normal_turn.ensures.exact)
