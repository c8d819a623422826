use Rattle.std.proofs.Common.{List, map, sym, subst, ◌∙◌}
use Rattle.circ_term.specs.Tree.{sort_of}
use Rattle.circ_theory.specs.Theory.{IsHidden, IsWellSortedGoal}
use Rattle.circ_theory.specs.Fresh.{derivatives_of}
use Rattle.circ_theory.specs.Goal.{Goal}
use Rattle.circ_nodes.proofs.Numbers.{grows_more}
use Rattle.circ_rules.specs.Derivatives.{NamesCause, first_cause}
use Rattle.circ_rules.proofs.Simplifying.{front_sorted}
use Rattle.circ_shared.specs.Patterns.{goal_at}
use Rattle.circ_steps.specs.States.{shared_goal, shared_goals, state_at}
use Rattle.circ_steps.proofs.Deriving.{derived_state, kept_seen, kept_there, moved_seen, moved_there, pattern_goal, refused, rules_later}
use Rattle.circ_steps.proofs.Fronts.{front_seen, front_there, some_seen}
use Rattle.circ_steps.proofs.Staying.{on_err, shared_goal_later, state_later, state_there_later}
use Rattle.circ_steps.proofs.rules.Rules.derive.Goals as goal

pub returns-in_err-hypothesis-clause-state : goal.returns-in_err-hypothesis-clause-state
returns-in_err-hypothesis-clause-state c =
    state_there_later c.args.nodes.now c.pattern.new.nodes c.pattern.ensures.grows c.args.state.now c.requires.state

pub returns-in_err-hypothesis-clause-kept : goal.returns-in_err-hypothesis-clause-kept
returns-in_err-hypothesis-clause-kept c =
    on_err c.from_residual-in_err-hypothesis.result (state_later c.args.nodes.now c.pattern.new.nodes c.pattern.ensures.grows c.args.state.now c.requires.state)

pub derivatives_on-requires-clause-rules : goal.derivatives_on-requires-clause-rules
derivatives_on-requires-clause-rules c = rules_later c.args.nodes.now c.pattern.new.nodes c.in_ok-hypothesis.ensures.grows c.args.self.now c.requires.rules

pub derivatives_on-requires-clause-sorted : goal.derivatives_on-requires-clause-sorted
derivatives_on-requires-clause-sorted c =
    let old = c.args.nodes.now in
    let mid = c.pattern.new.nodes in
    let th = c.args.self.now.theory.now in
    let s = c.args.state.now in
    let first = c.in-Some.goal.now in
    let there = front_there old s.goals.items first c.in-Some.ensures.item.3.0 c.in-Some.ensures.lookup c.requires.state.goals in
    let same = pattern_goal old mid c.in_ok-hypothesis.ensures.grows first c.in_ok-hypothesis.hypothesis there
    (c.in_ok-hypothesis.ensures.conditions ∙ c.in_ok-conds.ensures.items ∙ c.as_slice.ensures.value) c.in_ok-hypothesis.ensures.sides
    (shared_goal_later old mid c.in_ok-hypothesis.ensures.grows first there) in
    let P : Goal → Type 0 = IsWellSortedGoal th in
    subst P (sym same)
    (front_sorted th (shared_goals old s.goals.items) (shared_goal old first) (some_seen old s.goals.items c.in-Some.ensures.item.3.0)
    (front_seen old s.goals.items first c.in-Some.ensures.lookup) c.requires.sorted.1)

pub returns-in_err-move_first-in-Ok-clause-state : goal.returns-in_err-move_first-in-Ok-clause-state
returns-in_err-move_first-in-Ok-clause-state c =
    kept_there c.args.nodes.now c.derivatives_on.new.nodes
    (grows_more c.args.nodes.now c.pattern.new.nodes c.derivatives_on.new.nodes c.in_ok-hypothesis.ensures.grows c.derivatives_on.ensures.grows)
    c.args.state.now c.move_first.new.state c.requires.state c.in_err-move_first-in-Ok.ensures.kept_hyps c.in_err-move_first-in-Ok.ensures.kept_goals

pub returns-in_err-move_first-in-Ok-clause-kept : goal.returns-in_err-move_first-in-Ok-clause-kept
returns-in_err-move_first-in-Ok-clause-kept c =
    on_err c.from_residual-in_err-move_first-in-Ok.result
    (kept_seen c.args.nodes.now c.derivatives_on.new.nodes
    (grows_more c.args.nodes.now c.pattern.new.nodes c.derivatives_on.new.nodes c.in_ok-hypothesis.ensures.grows c.derivatives_on.ensures.grows)
    c.args.state.now c.move_first.new.state c.requires.state c.in_err-move_first-in-Ok.ensures.kept_hyps c.in_err-move_first-in-Ok.ensures.kept_goals)

pub returns-in-Err-clause-state : goal.returns-in-Err-clause-state
returns-in-Err-clause-state c =
    state_there_later c.args.nodes.now c.derivatives_on.new.nodes
    (grows_more c.args.nodes.now c.pattern.new.nodes c.derivatives_on.new.nodes c.in_ok-hypothesis.ensures.grows c.derivatives_on.ensures.grows)
    c.args.state.now c.requires.state

pub returns-in-Err-clause-kept : goal.returns-in-Err-clause-kept
returns-in-Err-clause-kept c =
    on_err c.false_unless_memory.result
    (state_later c.args.nodes.now c.derivatives_on.new.nodes
    (grows_more c.args.nodes.now c.pattern.new.nodes c.derivatives_on.new.nodes c.in_ok-hypothesis.ensures.grows c.derivatives_on.ensures.grows)
    c.args.state.now c.requires.state)

pub returns-in-Err-clause-exact : goal.returns-in-Err-clause-exact
returns-in-Err-clause-exact c =
    let old = c.args.nodes.now in
    let mid = c.pattern.new.nodes in
    let new = c.derivatives_on.new.nodes in
    let k = grows_more old mid new c.in_ok-hypothesis.ensures.grows c.derivatives_on.ensures.grows in
    let th = c.args.self.now.theory.now in
    let s = c.args.state.now in
    let first = c.in-Some.goal.now in
    let there = front_there old s.goals.items first c.in-Some.ensures.item.3.0 c.in-Some.ensures.lookup c.requires.state.goals in
    let same = pattern_goal old mid c.in_ok-hypothesis.ensures.grows first c.in_ok-hypothesis.hypothesis there
    (c.in_ok-hypothesis.ensures.conditions ∙ c.in_ok-conds.ensures.items ∙ c.as_slice.ensures.value) c.in_ok-hypothesis.ensures.sides
    (shared_goal_later old mid c.in_ok-hypothesis.ensures.grows first there) in
    let P : Goal → Type 0 = λ g. NamesCause c.in-Err.fault (first_cause g (derivatives_of th (sort_of g.left))) in
    let H : List Goal = map (goal_at old) s.hyps.items in
    refused th c.args.self.now.gamma.now H (shared_goals old s.goals.items) (shared_goal old first) (state_at new s) c.in-Err.fault c.false_unless_memory.result
    (front_seen old s.goals.items first c.in-Some.ensures.lookup) (subst P same (rw c.in-Err.is at c.derivatives_on.ensures.exact))
    (state_later old new k s c.requires.state) c.false_unless_memory.ensures

pub returns-in_ok-move_first-in-Ok-clause-state : goal.returns-in_ok-move_first-in-Ok-clause-state
returns-in_ok-move_first-in-Ok-clause-state c =
    let old = c.args.nodes.now in
    let mid = c.pattern.new.nodes in
    let new = c.derivatives_on.new.nodes in
    let k = grows_more old mid new c.in_ok-hypothesis.ensures.grows c.derivatives_on.ensures.grows in
    let made = rw c.in-Ok.is at c.derivatives_on.ensures.exact in
    moved_there old mid new c.in_ok-hypothesis.ensures.grows c.derivatives_on.ensures.grows k c.args.state.now c.move_first.new.state c.requires.state
    c.in_ok-hypothesis.hypothesis c.in_ok-hypothesis.ensures.pattern c.in-Ok.derived.items c.in_ok-move_first-in-Ok.ensures.hyps
    c.in_ok-move_first-in-Ok.ensures.goals made.0

pub returns-in_ok-move_first-in-Ok-clause-exact : goal.returns-in_ok-move_first-in-Ok-clause-exact
returns-in_ok-move_first-in-Ok-clause-exact c =
    let old = c.args.nodes.now in
    let mid = c.pattern.new.nodes in
    let new = c.derivatives_on.new.nodes in
    let k = grows_more old mid new c.in_ok-hypothesis.ensures.grows c.derivatives_on.ensures.grows in
    let th = c.args.self.now.theory.now in
    let s = c.args.state.now in
    let p = c.in_ok-hypothesis.hypothesis in
    let hs = c.in-Ok.derived.items in
    let first = c.in-Some.goal.now in
    let g = shared_goal old first in
    let there = front_there old s.goals.items first c.in-Some.ensures.item.3.0 c.in-Some.ensures.lookup c.requires.state.goals in
    let same = pattern_goal old mid c.in_ok-hypothesis.ensures.grows first p there
    (c.in_ok-hypothesis.ensures.conditions ∙ c.in_ok-conds.ensures.items ∙ c.as_slice.ensures.value) c.in_ok-hypothesis.ensures.sides
    (shared_goal_later old mid c.in_ok-hypothesis.ensures.grows first there) in
    let made = rw c.in-Ok.is at c.derivatives_on.ensures.exact in
    let H : List Goal = map (goal_at old) s.hyps.items in
    let seen = moved_seen old mid new c.in_ok-hypothesis.ensures.grows c.derivatives_on.ensures.grows k s c.move_first.new.state c.requires.state p
    c.in_ok-hypothesis.ensures.pattern hs c.in_ok-move_first-in-Ok.ensures.hyps c.in_ok-move_first-in-Ok.ensures.goals in
    let hidden : IsHidden th (sort_of g.left) = rw c.sort.ensures at (c.is_hidden.ensures.hidden.0 c.if-not-is_hidden.false) in
    derived_state th c.args.self.now.gamma.now H (shared_goals old s.goals.items) (shared_goals new hs) g (goal_at mid p) (state_at new c.move_first.new.state)
    (some_seen old s.goals.items c.in-Some.ensures.item.3.0) (front_seen old s.goals.items first c.in-Some.ensures.lookup) same hidden made.1 made.2 seen
