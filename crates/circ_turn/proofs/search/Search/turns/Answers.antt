use Rattle.std.proofs.Common.{◌≡◌, List, [], ap, sym, ◌∙◌, subst}
use Rattle.circ_theory.specs.Goal.{Goal}
use Rattle.circ_conditional_search.specs.Coming.{ComesTrying, here, further}
use Rattle.circ_plain_search.specs.Search.{Standing, Ending, All_done}
use Rattle.circ_conditional_search.specs.Search.{Finishes, stops, turn_trying}
use Rattle.circ_block.specs.Rules.{IsRulesOf}
use Rattle.circ_turn.specs.Standing.{standing, manner_of}
use Rattle.circ_turn.proofs.Earlier.{start_earlier}
use Rattle.circ_turn.proofs.Turning.{is_end}
use Rattle.circ_turn.proofs.search.Search.turns.Goals as goal

pub loop-end-init : goal.loop-end-init
loop-end-init c =
    let l = (manner_of c.args.self.now).limits in
    let none : (standing c.args.state.now).earlier ≡ [] = ap (λ x. x.earlier) c.requires.start.start ∙ start_earlier l c.requires.start.blocks in
    let P : List Goal → Type 0 = λ E. IsRulesOf c.args.self.now.theory.now E c.args.rules.now in
    record { comes = here; rules = subst P (sym none) c.requires.rules }

pub turn-requires-clause-ready : goal.turn-requires-clause-ready
turn-requires-clause-ready c = λ g rest n q e.
    let th = c.args.self.now.theory.now in
    let G = c.args.self.now.gamma.now in
    let m = manner_of c.args.self.now in
    let P : Standing → Type 0 = λ x. ComesTrying th G m x (standing c.loop-end.state) in
    c.normal_goals_are_ready.ensures th c.known.ensures G m c.requires.start.blocks c.requires.start.searchable (standing c.loop-end.state)
    (subst P c.requires.start.start c.loop-end.invariant.comes) g rest q n e

pub turn-requires-clause-next : goal.turn-requires-clause-next
turn-requires-clause-next c = λ y t.
    let th = c.args.self.now.theory.now in
    let G = c.args.self.now.gamma.now in
    let m = manner_of c.args.self.now in
    let P : Standing → Type 0 = λ x. ComesTrying th G m x y in
    c.standings_are_small.ensures th c.known.ensures G m c.requires.start.blocks c.requires.start.searchable y
    (subst P c.requires.start.start (further (standing c.loop-end.state) y c.loop-end.invariant.comes t))

pub loop-end-smaller : goal.loop-end-smaller
loop-end-smaller c =
    let t = rw (c.in-Ok-true.is, c.in-Ok-true.field-0-test) at c.turn.ensures.exact in
    c.turns_end.ensures c.args.self.now.theory.now c.args.self.now.gamma.now (manner_of c.args.self.now) (standing c.loop-end.state) (standing c.turn.new.state) t

pub loop-end-preserved : goal.loop-end-preserved
loop-end-preserved c =
    let t = rw (c.in-Ok-true.is, c.in-Ok-true.field-0-test) at c.turn.ensures.exact in
    let r = rw (c.in-Ok-true.is, c.in-Ok-true.field-0-test) at c.turn.ensures.rules in
    record { comes = further (standing c.loop-end.state) (standing c.turn.new.state) c.loop-end.invariant.comes t; rules = r }

pub returns-in-Ok-false : goal.returns-in-Ok-false
returns-in-Ok-false c =
    let th = c.args.self.now.theory.now in
    let G = c.args.self.now.gamma.now in
    let m = manner_of c.args.self.now in
    let st = standing c.turn.new.state in
    let e : Ending = All_done st.finished st.derives st.made st.deep in
    let t = rw (c.in-Ok-false.is, c.in-Ok-false.field-0-test) at c.turn.ensures.exact in
    c.what_comes_finishes.ensures th G m (standing c.args.state.now) (standing c.loop-end.state) e c.loop-end.invariant.comes (stops (standing c.loop-end.state) e t)

pub returns-in-Err : goal.returns-in-Err
returns-in-Err c =
    let th = c.args.self.now.theory.now in
    let G = c.args.self.now.gamma.now in
    let m = manner_of c.args.self.now in
    let t = rw c.in-Err.is at c.turn.ensures.exact in
    is_end (Finishes th G m (standing c.args.state.now)) (turn_trying th G m (standing c.loop-end.state)) c.in-Err.end
    (λ x y. c.what_comes_finishes.ensures th G m (standing c.args.state.now) (standing c.loop-end.state) x c.loop-end.invariant.comes (stops (standing c.loop-end.state) x y)) t
