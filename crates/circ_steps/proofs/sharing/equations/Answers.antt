use Rattle.std.proofs.Common.{List, sym, subst, arith}
use Rattle.std.proofs.lemmas.Option.{get_or_from_slice_get}
use Rattle.circ_nodes.proofs.Numbers.{grows_self, grows_more}
use Rattle.circ_shared.specs.declared.patterns.Pattern.{Pattern}
use Rattle.circ_steps.proofs.Entering.{AreEquations, equations_none, equations_next, equations_all}
use Rattle.circ_steps.proofs.sharing.equations.Goals as goal

pub loop-number-init : goal.loop-number-init
loop-number-init c =
    let nodes = c.args.nodes.now in
    let P : List Pattern → Type 0 = AreEquations c.args.theory.now.equations nodes 0 in
    record { grows = grows_self nodes; equations = subst P (sym c.new-patterns.ensures.items) (equations_none c.args.theory.now.equations nodes) }

pub returns-in_err-share_equation-clause-grows : goal.returns-in_err-share_equation-clause-grows
returns-in_err-share_equation-clause-grows c =
    grows_more c.args.nodes.now c.loop-number.nodes c.share_equation.new.nodes c.loop-number.invariant.grows c.share_equation.ensures.grows

pub returns-in_err-push-clause-grows : goal.returns-in_err-push-clause-grows
returns-in_err-push-clause-grows c =
    grows_more c.args.nodes.now c.loop-number.nodes c.share_equation.new.nodes c.loop-number.invariant.grows c.in_ok-share_equation.ensures.grows

pub loop-number-preserved : goal.loop-number-preserved
loop-number-preserved c =
    let at = c.loop-number in
    let es = c.args.theory.now.equations in
    let e = c.in-Some.equation.now in
    let new = c.share_equation.new.nodes in
    let g = c.in_ok-share_equation.ensures.grows in
    let read = sym (get_or_from_slice_get es at.number e e (sym c.in-Some.ensures)) in
    record {
      grows = grows_more c.args.nodes.now at.nodes new at.invariant.grows g;
      equations =
          equations_next es at.nodes new g at.number e at.patterns.items c.push.new.self.items c.in_ok-share_equation.field-0
          (omega (arith, c.loop-number-test.true, c.equation_count-number-end.ensures.count)) read c.in_ok-share_equation.ensures.pattern
          c.in_ok-share_equation.ensures.same c.in_ok-push.ensures.items at.invariant.equations;
    }

pub returns-clause-grows : goal.returns-clause-grows
returns-clause-grows c = c.loop-number.invariant.grows

pub returns-clause-equations : goal.returns-clause-equations
returns-clause-equations c =
    let at = c.loop-number in
    equations_all c.args.theory.now.equations at.nodes at.number at.patterns.items
    (omega (arith, c.loop-number-test.false, c.equation_count-number-end.ensures.count)) at.invariant.equations

pub returns-clause-patterns : goal.returns-clause-patterns
returns-clause-patterns c = c.loop-number.invariant.equations.patterns
