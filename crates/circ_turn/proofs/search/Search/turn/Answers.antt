use Rattle.std.proofs.Common.{◌≡◌, ◌∷◌, [], List, Ok, length, take, drop, sym, ap, subst, ◌∙◌, arith}
use Rattle.std.proofs.lemmas.List.{take_at}
use Rattle.circ_term.proofs.Within.{drop_read}
use Rattle.circ_theory.specs.Goal.{Goal}
use Rattle.circ_block.specs.Rules.{IsRulesOf}
use Rattle.circ_conditional_search.specs.Search.{turn_trying, turn_trying_at}
use Rattle.circ_turn.specs.Standing.{standing, plain_limits, manner_of}
use Rattle.circ_turn.proofs.Earlier.{goal_keeps, done_earlier, none_there}
use Rattle.circ_turn.proofs.search.Search.turn.Goals as goal

empty : (c : goal.After-earlier) → c.args.state.now.queue.items ≡ []
empty c = none_there c.args.state.now.queue.items c.args.state.now.queue.len (sym c.args.state.now.queue.ok.0) c.in-None.ensures.variant.1

pub done_turn-requires : goal.done_turn-requires
done_turn-requires c = record {
  next = λ y e.
      let Q : List Goal = c.args.state.now.queue.items in
      let none : Q ≡ [] = none_there Q c.args.state.now.queue.len (sym c.args.state.now.queue.ok.0) c.in-None.ensures.variant.1 in
      c.requires.next y (ap (turn_trying_at c.args.self.now.theory.now c.args.self.now.gamma.now (manner_of c.args.self.now) (standing c.args.state.now)) none ∙ e);
}

pub next_block-requires-clause-few : goal.next_block-requires-clause-few
next_block-requires-clause-few c =
    let st = standing c.args.state.now in
    let d = rw (c.in-Ok-true.is, c.in-Ok-true.field-0-test) at c.done_turn.ensures in
    let t : turn_trying c.args.self.now.theory.now c.args.self.now.gamma.now (manner_of c.args.self.now) st ≡ Ok (standing c.done_turn.new.state)
    = ap (turn_trying_at c.args.self.now.theory.now c.args.self.now.gamma.now (manner_of c.args.self.now) st) (empty c) ∙ d in
    let small = c.requires.next (standing c.done_turn.new.state) t in
    omega (arith, small.earlier, ap length c.earlier.ensures)

pub next_block-requires-clause-before : goal.next_block-requires-clause-before
next_block-requires-clause-before c =
    let st = standing c.args.state.now in
    let r = c.requires.rules in
    let d = rw (c.in-Ok-true.is, c.in-Ok-true.field-0-test) at c.done_turn.ensures in
    let all = c.earlier.ensures ∙ done_earlier c.args.self.now.theory.now (plain_limits c.args.self.now.limits) st (standing c.done_turn.new.state) d in
    let same = ap (take c.args.rules.now.count) all ∙ take_at st.earlier st.goals c.args.rules.now.count (sym r.count) in
    let P : List Goal → Type 0 = λ E. IsRulesOf c.args.self.now.theory.now E c.args.rules.now in
    subst P (sym same) r

pub returns-in-Ok-clause-rules : goal.returns-in-Ok-clause-rules
returns-in-Ok-clause-rules c =
    let st = standing c.args.state.now in
    let Q : List Goal = c.args.state.now.queue.items in
    let front : Q ≡ c.in-Some.field-0.now ∷ drop 1 Q = drop_read Q 0 c.in-Some.field-0.now c.in-Some.ensures.item.3.0 c.in-Some.ensures.lookup in
    let g = rw c.in-Ok.is at (c.goal_turn.ensures.exact c.in-Some.field-0.now (drop 1 Q) front) in
    let same = goal_keeps c.args.self.now.theory.now (manner_of c.args.self.now) c.args.self.now.gamma.now st (standing c.goal_turn.new.state) c.in-Some.field-0.now (drop 1 Q) g in
    let P : List Goal → Type 0 = λ E. IsRulesOf c.args.self.now.theory.now E c.goal_turn.new.rules in
    subst P (sym same) c.goal_turn.ensures.rules
