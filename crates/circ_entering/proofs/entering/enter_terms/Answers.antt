use Rattle.std.proofs.Common.{List, ℕ, refl, sym, subst}
use Rattle.circ_nodes.specs.Named.{tree_at}
use Rattle.circ_nodes.proofs.Located.{named_tree}
use Rattle.circ_nodes.proofs.Numbers.{grows_self, grows_more, named_below}
use Rattle.circ_entering.proofs.Entered.{AreEntered, IsNumber, numbers_stay, entered_next, entered_all}
use Rattle.circ_entering.proofs.entering.enter_terms.Goals as goal

pub loop-term-init : goal.loop-term-init
loop-term-init c =
    let ts = c.args.terms.now in
    let P : List ℕ → Type 0 = AreEntered IsNumber tree_at ts ts c.args.nodes.now 0 in
    record { grows = grows_self c.args.nodes.now; entered = subst P (sym c.in_ok-numbers.ensures.items) (record { there = tt; seen = refl }) }

pub loop-term-preserved : goal.loop-term-preserved
loop-term-preserved c =
    let at = c.loop-term in
    let new = c.intern.new.self in
    let ts = c.args.terms.now in
    let t = c.term-item.result in
    let n = c.in_ok-intern.field-0 in
    let named = c.in_ok-intern.ensures.named in
    record {
      grows = grows_more c.args.nodes.now at.nodes new at.invariant.grows c.intern.ensures.grows;
      entered = entered_next IsNumber tree_at numbers_stay ts ts at.nodes new c.intern.ensures.grows at.term-index t n at.numbers.items c.push.new.self.items
          c.loop-term-test.true c.term-item.is (named_below new n t named) (named_tree new n t named) c.in_ok-push.ensures.items at.invariant.entered;
    }

pub returns-clause-grows : goal.returns-clause-grows
returns-clause-grows c = c.loop-term.invariant.grows

pub returns-clause-there : goal.returns-clause-there
returns-clause-there c = c.loop-term.invariant.entered.there

pub returns-clause-exact : goal.returns-clause-exact
returns-clause-exact c =
    let at = c.loop-term in
    let ts = c.args.terms.now in
    entered_all IsNumber tree_at ts ts at.nodes at.term-index at.numbers.items c.loop-term-test.false at.invariant.entered
