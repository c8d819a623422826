use Rattle.std.proofs.Common.{List, sym, subst}
use Rattle.circ_nodes.proofs.Numbers.{grows_self, grows_more}
use Rattle.circ_shared.proofs.Sharing.{term_later}
use Rattle.circ_steps.specs.declared.states.SharedGoal.{SharedGoal}
use Rattle.circ_steps.proofs.Splitting.{AreCases, cases_none, cases_next, cases_all}
use Rattle.circ_steps.proofs.Staying.{goal_there_later}
use Rattle.circ_steps.proofs.cases.cases_on.Goals as goal

pub loop-constant-init : goal.loop-constant-init
loop-constant-init c =
    let nodes = c.args.nodes.now in
    let P : List SharedGoal → Type 0 = AreCases nodes c.args.goal.now c.args.term nodes c.args.constants.now 0 in
    record {
      grows = grows_self nodes;
      cases = subst P (sym c.in_ok-cases.ensures.items) (cases_none nodes c.args.goal.now c.args.term nodes c.args.constants.now);
    }

pub case_on-requires-clause-goal : goal.case_on-requires-clause-goal
case_on-requires-clause-goal c =
    goal_there_later c.args.nodes.now c.loop-constant.nodes c.loop-constant.invariant.grows c.args.goal.now c.requires.goal

pub case_on-requires-clause-term : goal.case_on-requires-clause-term
case_on-requires-clause-term c =
    term_later c.args.nodes.now c.loop-constant.nodes c.loop-constant.invariant.grows c.args.term c.requires.term

pub returns-in_err-case_on-clause-grows : goal.returns-in_err-case_on-clause-grows
returns-in_err-case_on-clause-grows c =
    grows_more c.args.nodes.now c.loop-constant.nodes c.case_on.new.nodes c.loop-constant.invariant.grows c.case_on.ensures.grows

pub returns-in_err-push-clause-grows : goal.returns-in_err-push-clause-grows
returns-in_err-push-clause-grows c =
    grows_more c.args.nodes.now c.loop-constant.nodes c.case_on.new.nodes c.loop-constant.invariant.grows c.in_ok-case_on.ensures.grows

pub loop-constant-preserved : goal.loop-constant-preserved
loop-constant-preserved c =
    let at = c.loop-constant in
    let start = c.args.nodes.now in
    let g = c.in_ok-case_on.ensures.grows in
    record {
      grows = grows_more start at.nodes c.case_on.new.nodes at.invariant.grows g;
      cases =
          cases_next start c.args.goal.now c.args.term at.nodes c.case_on.new.nodes c.args.constants.now at.constant-index at.cases.items c.push.new.self.items
          c.in_ok-case_on.field-0 at.invariant.grows g c.requires.term c.requires.goal c.loop-constant-test.true c.in_ok-push.ensures.items
          c.in_ok-case_on.ensures.there c.in_ok-case_on.ensures.seen at.invariant.cases;
    }

pub returns-clause-grows : goal.returns-clause-grows
returns-clause-grows c = c.loop-constant.invariant.grows

pub returns-clause-there : goal.returns-clause-there
returns-clause-there c = c.loop-constant.invariant.cases.there

pub returns-clause-seen : goal.returns-clause-seen
returns-clause-seen c =
    let at = c.loop-constant in
    cases_all c.args.nodes.now c.args.goal.now c.args.term at.nodes c.args.constants.now at.constant-index at.cases.items c.loop-constant-test.false
    at.invariant.cases
