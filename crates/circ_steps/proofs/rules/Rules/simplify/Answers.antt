use Rattle.std.proofs.Common.{List, Some, None, map, sym, subst}
use Rattle.circ_theory.specs.Theory.{Pair}
use Rattle.circ_theory.specs.Goal.{Goal}
use Rattle.circ_proof.specs.Plain.{plain_chain}
use Rattle.circ_proof.specs.Link.{setting, resolved_chain}
use Rattle.circ_proof.specs.Rules.{State, Simplify, StepOf}
use Rattle.circ_shared.specs.Chains.{FollowsSides}
use Rattle.circ_shared.specs.Patterns.{pair_at, pairs_at, goal_at}
use Rattle.circ_rules.proofs.Simplifying.{simplifies, none_simplifies}
use Rattle.circ_steps.specs.Judging.{terms_at}
use Rattle.circ_steps.specs.States.{shared_goal, shared_goals, state_at}
use Rattle.circ_steps.proofs.Fronts.{front_seen, some_seen, put_there, put_seen}
use Rattle.circ_steps.proofs.Staying.{on_err, state_later, state_there_later}
use Rattle.circ_steps.proofs.rules.Rules.simplify.Goals as goal

pub returns-in_err-end-clause-state : goal.returns-in_err-end-clause-state
returns-in_err-end-clause-state c =
    state_there_later c.args.nodes.now c.follow_chain.new.nodes c.follow_chain.ensures.grows c.args.state.now c.requires.state

pub returns-in_err-end-clause-kept : goal.returns-in_err-end-clause-kept
returns-in_err-end-clause-kept c =
    on_err c.from_residual.result
    (state_later c.args.nodes.now c.follow_chain.new.nodes c.follow_chain.ensures.grows c.args.state.now c.requires.state)

pub returns-in_default-2-clause-state : goal.returns-in_default-2-clause-state
returns-in_default-2-clause-state c =
    state_there_later c.args.nodes.now c.follow_chain.new.nodes c.in_ok-end.ensures.grows c.args.state.now c.requires.state

pub returns-in_default-2-clause-exact : goal.returns-in_default-2-clause-exact
returns-in_default-2-clause-exact c =
    let self = c.args.self.now in
    let old = c.args.nodes.now in
    let new = c.follow_chain.new.nodes in
    let s = c.args.state.now in
    let first = c.in-Some.first.now in
    let chain = resolved_chain (terms_at old self) (plain_chain c.args.chain.now) in
    let H : List Goal = map (goal_at old) s.hyps.items in
    let none : FollowsSides new (setting self.theory.now self.gamma.now H (pairs_at old first.conds.items)) chain (pair_at old first.sides) None
    = rw (c.in_default-2.is, c.as_slice.ensures.value, c.as_slice-conds.ensures.value) at c.in_ok-end.ensures.exact in (
      none_simplifies self.theory.now self.gamma.now chain H (shared_goals old s.goals.items) (shared_goal old first)
          (front_seen old s.goals.items first c.in-Some.ensures.lookup) none,
      state_later old new c.in_ok-end.ensures.grows s c.requires.state,
    )

pub returns-clause-state : goal.returns-clause-state
returns-clause-state c =
    let self = c.args.self.now in
    let old = c.args.nodes.now in
    let new = c.follow_chain.new.nodes in
    let there = (rw c.in-Some-2.is at c.in_ok-end.ensures.exact).0 in
    put_there old new c.in_ok-end.ensures.grows c.in-Some-2.end there c.args.state.now c.put_sides.new.state c.requires.state
    c.put_sides.ensures.hyps c.put_sides.ensures.put

pub returns-clause-exact : goal.returns-clause-exact
returns-clause-exact c =
    let self = c.args.self.now in
    let old = c.args.nodes.now in
    let new = c.follow_chain.new.nodes in
    let s = c.args.state.now in
    let first = c.in-Some.first.now in
    let chain = resolved_chain (terms_at old self) (plain_chain c.args.chain.now) in
    let H : List Goal = map (goal_at old) s.hyps.items in
    let q : Pair = pair_at new c.in-Some-2.end in
    let some : FollowsSides new (setting self.theory.now self.gamma.now H (pairs_at old first.conds.items)) chain (pair_at old first.sides) (Some c.in-Some-2.end)
    = rw (c.in-Some-2.is, c.as_slice.ensures.value, c.as_slice-conds.ensures.value) at c.in_ok-end.ensures.exact in
    let seen = put_seen old new c.in_ok-end.ensures.grows c.in-Some-2.end some.0 s c.put_sides.new.state c.requires.state
    c.put_sides.ensures.hyps c.put_sides.ensures.put in
    let P : State → Type 0 = StepOf self.theory.now self.gamma.now (Simplify chain) (state_at old s) in
    subst P (sym seen)
    (simplifies self.theory.now self.gamma.now chain H (shared_goals old s.goals.items) (shared_goal old first) q
    (some_seen old s.goals.items c.in-Some.ensures.item.3.0) (front_seen old s.goals.items first c.in-Some.ensures.lookup) some.1)
