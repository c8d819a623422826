use Rattle.std.proofs.Common.{◌≡◌, List, [], ap, sym, ◌∙◌, subst}
use Rattle.std.proofs.lemmas.Result.{err_from_is_err_and}
use Rattle.circ_theory.specs.Goal.{Goal}
use Rattle.circ_plain_search.specs.Search.{Standing, Ending, All_done}
use Rattle.circ_attempt.specs.Attempt.{Stood}
use Rattle.circ_attempt.specs.RewritingSearch.{ComesRewriting, here_so, further_so}
use Rattle.circ_attempt.specs.Search.{Going, going, turn_rewriting}
use Rattle.circ_block.specs.Rules.{IsRulesOf}
use Rattle.circ_turn.specs.Standing.{standing, manner_of, conduct_with}
use Rattle.circ_turn.proofs.Earlier.{start_earlier}
use Rattle.circ_turn.proofs.Turning.{is_end}
use Rattle.circ_rewriting_turn.proofs.Going.{memory_ends, tells_next, tells_done, tells_end, holds_next}
use Rattle.circ_trace.specs.Telling.{IsTold, RulesAreRead}
use Rattle.circ_trace.specs.declared.descent.Descent.{Descent}
use Rattle.circ_trace.proofs.Telling.{GoesOn, from_start, one_more, the_last}
use Rattle.circ_trace.proofs.turns.turns.Goals as goal

pub loop-rules-init : goal.loop-rules-init
loop-rules-init c =
    let th = c.args.search.now.theory.now in
    let G = c.args.search.now.gamma.now in
    let m = conduct_with c.args.search.now.limits in
    let st = standing c.args.state.now in
    let old = c.args.out.now.items in
    let none : st.earlier ≡ [] = ap (λ x. x.earlier) c.requires.start.start ∙ start_earlier (manner_of c.args.search.now).limits c.requires.start.blocks in
    let P : List Goal → Type 0 = λ E. IsRulesOf th E c.args.rules.now in
    let C : Stood → Type 0 = λ ps. ComesRewriting th G m (going st []) (going st ps) in
    let Q : List Descent → Type 0 = λ ws. GoesOn th G m st old ws (going st []) old in
    let R : Stood → Type 0 = λ ps. GoesOn th G m st old c.args.waiting.now.items (going st ps) old in
    record {
      comes = subst C (sym c.requires.passed) here_so;
      rules = subst P (sym none) c.requires.rules;
      passes = c.requires.passes;
      told = subst R (sym c.requires.passed) (subst Q (sym c.requires.waiting) (from_start th G m st old));
    }

pub tell-requires-clause-rules : goal.tell-requires-clause-rules
tell-requires-clause-rules c = c.loop-rules.invariant.rules

pub tell-requires-clause-passes : goal.tell-requires-clause-passes
tell-requires-clause-passes c = c.loop-rules.invariant.passes

pub tell-requires-clause-small : goal.tell-requires-clause-small
tell-requires-clause-small c =
    let th = c.args.search.now.theory.now in
    let G = c.args.search.now.gamma.now in
    let m = conduct_with c.args.search.now.limits in
    let P : Standing → Type 0 = λ x. ComesRewriting th G m (going x []) (going (standing c.loop-rules.state) c.loop-rules.passed) in
    c.standings_are_small.ensures th c.known.ensures G m c.requires.start.blocks c.requires.start.searchable (going (standing c.loop-rules.state) c.loop-rules.passed)
    (subst P c.requires.start.start c.loop-rules.invariant.comes)

pub next_turn-requires-clause-rules : goal.next_turn-requires-clause-rules
next_turn-requires-clause-rules c = c.tell.ensures.rules

pub next_turn-requires-clause-passes : goal.next_turn-requires-clause-passes
next_turn-requires-clause-passes c = c.loop-rules.invariant.passes

pub next_turn-requires-clause-derived : goal.next_turn-requires-clause-derived
next_turn-requires-clause-derived c =
    let th = c.args.search.now.theory.now in
    let G = c.args.search.now.gamma.now in
    let m = conduct_with c.args.search.now.limits in
    let P : Standing → Type 0 = λ x. ComesRewriting th G m (going x []) (going (standing c.loop-rules.state) c.loop-rules.passed) in
    c.derives_are_hypotheses.ensures th G m c.requires.start.blocks (going (standing c.loop-rules.state) c.loop-rules.passed)
    (subst P c.requires.start.start c.loop-rules.invariant.comes)

pub next_turn-requires-clause-small : goal.next_turn-requires-clause-small
next_turn-requires-clause-small c =
    let th = c.args.search.now.theory.now in
    let G = c.args.search.now.gamma.now in
    let m = conduct_with c.args.search.now.limits in
    let P : Standing → Type 0 = λ x. ComesRewriting th G m (going x []) (going (standing c.loop-rules.state) c.loop-rules.passed) in
    c.standings_are_small.ensures th c.known.ensures G m c.requires.start.blocks c.requires.start.searchable (going (standing c.loop-rules.state) c.loop-rules.passed)
    (subst P c.requires.start.start c.loop-rules.invariant.comes)

pub next_turn-requires-clause-ready : goal.next_turn-requires-clause-ready
next_turn-requires-clause-ready c = λ g rest n q e.
    let th = c.args.search.now.theory.now in
    let G = c.args.search.now.gamma.now in
    let m = conduct_with c.args.search.now.limits in
    let P : Standing → Type 0 = λ x. ComesRewriting th G m (going x []) (going (standing c.loop-rules.state) c.loop-rules.passed) in
    c.normal_goals_are_ready.ensures th c.known.ensures G m c.requires.start.blocks c.requires.start.searchable (going (standing c.loop-rules.state) c.loop-rules.passed)
    (subst P c.requires.start.start c.loop-rules.invariant.comes) g rest q n e

pub next_turn-requires-clause-next : goal.next_turn-requires-clause-next
next_turn-requires-clause-next c = λ y t.
    let th = c.args.search.now.theory.now in
    let G = c.args.search.now.gamma.now in
    let m = conduct_with c.args.search.now.limits in
    let P : Standing → Type 0 = λ x. ComesRewriting th G m (going x []) y in
    c.standings_are_small.ensures th c.known.ensures G m c.requires.start.blocks c.requires.start.searchable y
    (subst P c.requires.start.start (further_so (going (standing c.loop-rules.state) c.loop-rules.passed) y c.loop-rules.invariant.comes t))

pub loop-rules-smaller : goal.loop-rules-smaller
loop-rules-smaller c =
    let th = c.args.search.now.theory.now in
    let G = c.args.search.now.gamma.now in
    let m = conduct_with c.args.search.now.limits in
    let x : Going = going (standing c.loop-rules.state) c.loop-rules.passed in
    let y : Going = going (standing c.next_turn.new.state) c.next_turn.new.passed in
    let on = c.in-Ok-true in
    c.turns_end.ensures th G m x y (tells_next (turn_rewriting th G m x) y c.next_turn.result on.field-0 on.is on.field-0-test c.next_turn.ensures.exact)

pub loop-rules-preserved : goal.loop-rules-preserved
loop-rules-preserved c =
    let th = c.args.search.now.theory.now in
    let G = c.args.search.now.gamma.now in
    let m = conduct_with c.args.search.now.limits in
    let x : Going = going (standing c.loop-rules.state) c.loop-rules.passed in
    let next : Going = going (standing c.next_turn.new.state) c.next_turn.new.passed in
    let on = c.in-Ok-true in
    let q = c.next_turn.result in
    let t = tells_next (turn_rewriting th G m x) next q on.field-0 on.is on.field-0-test c.next_turn.ensures.exact in
    let r = holds_next (IsRulesOf th c.next_turn.new.state.hyps.earlier c.next_turn.new.rules) q on.field-0 on.is on.field-0-test c.next_turn.ensures.rules in
    let p = holds_next (RulesAreRead c.args.search.now (standing c.next_turn.new.state) c.next_turn.new.passes) q on.field-0 on.is on.field-0-test c.next_turn.ensures.passes in
    record {
      comes = further_so x next c.loop-rules.invariant.comes t;
      rules = r;
      passes = p;
      told = one_more th G m (standing c.args.state.now) c.args.out.now.items c.loop-rules.waiting.items c.tell.new.waiting.items x next
          c.loop-rules.out.items c.tell.new.out.items c.loop-rules.invariant.told t c.in_ok-tell.ensures.lines c.in_ok-tell.ensures.waiting;
    }

pub returns-in_err-tell : goal.returns-in_err-tell
returns-in_err-tell c =
    let th = c.args.search.now.theory.now in
    let G = c.args.search.now.gamma.now in
    memory_ends (IsTold th G (conduct_with c.args.search.now.limits) (standing c.args.state.now) c.args.out.now.items c.tell.new.out.items) (standing c.loop-rules.state)
    c.from_residual.result (err_from_is_err_and c.from_residual.result c.from_residual.ensures.1)

pub returns-in-Ok-false : goal.returns-in-Ok-false
returns-in-Ok-false c =
    let th = c.args.search.now.theory.now in
    let G = c.args.search.now.gamma.now in
    let m = conduct_with c.args.search.now.limits in
    let st = standing c.next_turn.new.state in
    let e : Ending = All_done st.finished st.derives st.made st.deep in
    let x : Going = going (standing c.loop-rules.state) c.loop-rules.passed in
    let off = c.in-Ok-false in
    let t = tells_done (turn_rewriting th G m x) (going st c.next_turn.new.passed) c.next_turn.result off.field-0 off.is off.field-0-test c.next_turn.ensures.exact in
    the_last th G m (standing c.args.state.now) c.args.out.now.items c.loop-rules.waiting.items x e
    c.loop-rules.out.items c.tell.new.out.items c.loop-rules.invariant.told t c.in_ok-tell.ensures.lines

pub returns-in-Err : goal.returns-in-Err
returns-in-Err c =
    let th = c.args.search.now.theory.now in
    let G = c.args.search.now.gamma.now in
    let m = conduct_with c.args.search.now.limits in
    let x : Going = going (standing c.loop-rules.state) c.loop-rules.passed in
    let y : Going = going (standing c.next_turn.new.state) c.next_turn.new.passed in
    let t = tells_end (turn_rewriting th G m x) y c.next_turn.result c.in-Err.end c.in-Err.is c.next_turn.ensures.exact in
    is_end (IsTold th G m (standing c.args.state.now) c.args.out.now.items c.tell.new.out.items) (turn_rewriting th G m x) c.in-Err.end
    (λ y z. the_last th G m (standing c.args.state.now) c.args.out.now.items c.loop-rules.waiting.items x y
    c.loop-rules.out.items c.tell.new.out.items c.loop-rules.invariant.told z c.in_ok-tell.ensures.lines) t
