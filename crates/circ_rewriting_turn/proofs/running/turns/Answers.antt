use Rattle.std.proofs.Common.{◌≡◌, List, [], ap, sym, ◌∙◌, subst}
use Rattle.circ_theory.specs.Goal.{Goal}
use Rattle.circ_plain_search.specs.Search.{Standing, Ending, All_done}
use Rattle.circ_attempt.specs.Attempt.{Stood}
use Rattle.circ_attempt.specs.RewritingSearch.{ComesRewriting, here_so, further_so}
use Rattle.circ_attempt.specs.Search.{Going, going, turn_rewriting, FinishesRewriting, stops_so}
use Rattle.circ_block.specs.Rules.{IsRulesOf}
use Rattle.circ_turn.specs.Standing.{standing, manner_of}
use Rattle.circ_turn.proofs.Earlier.{start_earlier}
use Rattle.circ_turn.proofs.Turning.{is_end}
use Rattle.circ_rewriting_turn.specs.Going.{rewriting_by}
use Rattle.circ_rewriting_turn.specs.PassRules.{ReadAt}
use Rattle.circ_rewriting_turn.proofs.Going.{tells_next, tells_done, tells_end, holds_next}
use Rattle.circ_rewriting_turn.proofs.running.turns.Goals as goal

pub loop-end-init : goal.loop-end-init
loop-end-init c =
    let th = c.args.search.now.theory.now in
    let l = (manner_of c.args.search.now).limits in
    let none : (standing c.args.state.now).earlier ≡ [] = ap (λ x. x.earlier) c.requires.start.start ∙ start_earlier l c.requires.start.blocks in
    let P : List Goal → Type 0 = λ E. IsRulesOf th E c.args.rules.now in
    let Q : Stood → Type 0
    = λ ps. ComesRewriting th c.args.search.now.gamma.now (rewriting_by c.args.search.now) (going (standing c.args.state.now) []) (going (standing c.args.state.now) ps) in
    record { comes = subst Q (sym c.requires.passed) here_so; rules = subst P (sym none) c.requires.rules; passes = c.requires.passes }

pub turn-requires-clause-derived : goal.turn-requires-clause-derived
turn-requires-clause-derived c =
    let th = c.args.search.now.theory.now in
    let G = c.args.search.now.gamma.now in
    let m = rewriting_by c.args.search.now in
    let P : Standing → Type 0 = λ x. ComesRewriting th G m (going x []) (going (standing c.loop-end.state) c.loop-end.passed) in
    c.derives_are_hypotheses.ensures th G m c.requires.start.blocks (going (standing c.loop-end.state) c.loop-end.passed) (subst P c.requires.start.start c.loop-end.invariant.comes)

pub turn-requires-clause-rules : goal.turn-requires-clause-rules
turn-requires-clause-rules c = c.loop-end.invariant.rules

pub turn-requires-clause-passes : goal.turn-requires-clause-passes
turn-requires-clause-passes c = c.loop-end.invariant.passes

pub turn-requires-clause-small : goal.turn-requires-clause-small
turn-requires-clause-small c =
    let th = c.args.search.now.theory.now in
    let G = c.args.search.now.gamma.now in
    let m = rewriting_by c.args.search.now in
    let P : Standing → Type 0 = λ x. ComesRewriting th G m (going x []) (going (standing c.loop-end.state) c.loop-end.passed) in
    c.standings_are_small.ensures th c.known.ensures G m c.requires.start.blocks c.requires.start.searchable (going (standing c.loop-end.state) c.loop-end.passed)
    (subst P c.requires.start.start c.loop-end.invariant.comes)

pub turn-requires-clause-ready : goal.turn-requires-clause-ready
turn-requires-clause-ready c = λ g rest n q e.
    let th = c.args.search.now.theory.now in
    let G = c.args.search.now.gamma.now in
    let m = rewriting_by c.args.search.now in
    let P : Standing → Type 0 = λ x. ComesRewriting th G m (going x []) (going (standing c.loop-end.state) c.loop-end.passed) in
    c.normal_goals_are_ready.ensures th c.known.ensures G m c.requires.start.blocks c.requires.start.searchable (going (standing c.loop-end.state) c.loop-end.passed)
    (subst P c.requires.start.start c.loop-end.invariant.comes) g rest q n e

pub turn-requires-clause-next : goal.turn-requires-clause-next
turn-requires-clause-next c = λ y t.
    let th = c.args.search.now.theory.now in
    let G = c.args.search.now.gamma.now in
    let m = rewriting_by c.args.search.now in
    let P : Standing → Type 0 = λ x. ComesRewriting th G m (going x []) y in
    c.standings_are_small.ensures th c.known.ensures G m c.requires.start.blocks c.requires.start.searchable y
    (subst P c.requires.start.start (further_so (going (standing c.loop-end.state) c.loop-end.passed) y c.loop-end.invariant.comes t))

pub loop-end-smaller : goal.loop-end-smaller
loop-end-smaller c =
    let th = c.args.search.now.theory.now in
    let G = c.args.search.now.gamma.now in
    let m = rewriting_by c.args.search.now in
    let x : Going = going (standing c.loop-end.state) c.loop-end.passed in
    let y : Going = going (standing c.turn.new.state) c.turn.new.passed in
    let on = c.in-Ok-true in
    c.turns_end.ensures th G m x y (tells_next (turn_rewriting th G m x) y c.turn.result on.field-0 on.is on.field-0-test c.turn.ensures.exact)

pub loop-end-preserved : goal.loop-end-preserved
loop-end-preserved c =
    let th = c.args.search.now.theory.now in
    let x : Going = going (standing c.loop-end.state) c.loop-end.passed in
    let y : Going = going (standing c.turn.new.state) c.turn.new.passed in
    let r = turn_rewriting th c.args.search.now.gamma.now (rewriting_by c.args.search.now) x in
    let on = c.in-Ok-true in
    record {
      comes = further_so x y c.loop-end.invariant.comes (tells_next r y c.turn.result on.field-0 on.is on.field-0-test c.turn.ensures.exact);
      rules = holds_next (IsRulesOf th c.turn.new.state.hyps.earlier c.turn.new.rules) c.turn.result on.field-0 on.is on.field-0-test c.turn.ensures.rules;
      passes = holds_next (ReadAt th (standing c.turn.new.state) c.turn.new.passes) c.turn.result on.field-0 on.is on.field-0-test c.turn.ensures.passes;
    }

pub returns-in-Ok-false : goal.returns-in-Ok-false
returns-in-Ok-false c =
    let th = c.args.search.now.theory.now in
    let G = c.args.search.now.gamma.now in
    let m = rewriting_by c.args.search.now in
    let st = standing c.turn.new.state in
    let e : Ending = All_done st.finished st.derives st.made st.deep in
    let x : Going = going (standing c.loop-end.state) c.loop-end.passed in
    let off = c.in-Ok-false in
    let t = tells_done (turn_rewriting th G m x) (going st c.turn.new.passed) c.turn.result off.field-0 off.is off.field-0-test c.turn.ensures.exact in
    c.what_comes_finishes.ensures th G m (going (standing c.args.state.now) []) x e c.loop-end.invariant.comes (stops_so x e t)

pub returns-in-Err : goal.returns-in-Err
returns-in-Err c =
    let th = c.args.search.now.theory.now in
    let G = c.args.search.now.gamma.now in
    let m = rewriting_by c.args.search.now in
    let x : Going = going (standing c.loop-end.state) c.loop-end.passed in
    let y : Going = going (standing c.turn.new.state) c.turn.new.passed in
    let t = tells_end (turn_rewriting th G m x) y c.turn.result c.in-Err.end c.in-Err.is c.turn.ensures.exact in
    is_end (FinishesRewriting th G m (going (standing c.args.state.now) [])) (turn_rewriting th G m x) c.in-Err.end
    (λ y z. c.what_comes_finishes.ensures th G m (going (standing c.args.state.now) []) x y c.loop-end.invariant.comes (stops_so x y z)) t
