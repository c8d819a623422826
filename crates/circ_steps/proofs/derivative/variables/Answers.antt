use Rattle.std.proofs.Common.{List, ℕ, refl, sym, subst}
use Rattle.circ_nodes.proofs.Numbers.{grows_self, grows_more}
use Rattle.circ_steps.proofs.Numbering.{AreEntered, entered_none, entered_next, entered_all}
use Rattle.circ_steps.proofs.derivative.variables.Goals as goal

pub loop-place-init : goal.loop-place-init
loop-place-init c =
    let P : List ℕ → Type 0 = AreEntered c.args.first c.args.sorts.now c.args.nodes.now 0 in
    record {
      grows = grows_self c.args.nodes.now;
      entered = subst P (sym c.in_ok-numbers.ensures.items) (entered_none c.args.first c.args.sorts.now c.args.nodes.now);
    }

pub loop-place-preserved : goal.loop-place-preserved
loop-place-preserved c =
    let at = c.loop-place in
    record {
      grows = grows_more c.args.nodes.now at.nodes c.variable.new.self at.invariant.grows c.in_ok-variable.ensures.grows;
      entered =
          entered_next c.args.first c.args.sorts.now at.nodes c.variable.new.self c.in_ok-variable.ensures.grows at.place _ at.numbers.items c.push.new.self.items
          c.in_ok-variable.field-0 _ c.loop-place-test.true refl refl c.in_ok-variable.ensures.named c.in_ok-push.ensures.items at.invariant.entered;
    }

pub returns-clause-named : goal.returns-clause-named
returns-clause-named c =
    let at = c.loop-place in
    entered_all c.args.first c.args.sorts.now at.nodes at.place at.numbers.items c.loop-place-test.false at.invariant.entered
