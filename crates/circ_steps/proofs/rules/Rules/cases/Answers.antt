use Rattle.std.proofs.Common.{◌≡◌, ◌<◌, Some, length, List, map, slice_index_or, ap, sym, subst, ◌∙◌, arith}
use Rattle.std.proofs.lemmas.List.{length-map}
use Rattle.circ_term.specs.Tree.{Tree, sort_of}
use Rattle.circ_theory.specs.Limits.{condition_limit}
use Rattle.circ_theory.specs.Observing.{cases_of}
use Rattle.circ_theory.specs.Rewriting.{named}
use Rattle.circ_theory.specs.Goal.{Goal}
use Rattle.circ_proof.specs.Rules.{State, Cases, StepOf}
use Rattle.circ_nodes.specs.Named.{tree_at}
use Rattle.circ_rules.proofs.Splitting.{splits}
use Rattle.circ_shared.specs.Patterns.{pair_at, goal_at}
use Rattle.circ_steps.specs.Judging.{terms_at}
use Rattle.circ_steps.specs.States.{shared_goal, shared_goals, state_at}
use Rattle.circ_steps.proofs.Fronts.{front_seen, some_seen}
use Rattle.circ_steps.proofs.Splitting.{table_names, same_there, same_seen, split_there, split_seen}
use Rattle.circ_steps.proofs.Staying.{on_err, state_later, state_there_later}
use Rattle.circ_steps.proofs.rules.Rules.cases.Goals as goal

pub returns-in_err-cases-clause-state : goal.returns-in_err-cases-clause-state
returns-in_err-cases-clause-state c =
    state_there_later c.args.nodes.now c.cases_on.new.nodes c.cases_on.ensures.grows c.args.state.now c.requires.state

pub returns-in_err-cases-clause-kept : goal.returns-in_err-cases-clause-kept
returns-in_err-cases-clause-kept c =
    on_err c.from_residual.result
    (state_later c.args.nodes.now c.cases_on.new.nodes c.cases_on.ensures.grows c.args.state.now c.requires.state)

pub returns-in_err-put_first-clause-state : goal.returns-in_err-put_first-clause-state
returns-in_err-put_first-clause-state c =
    same_there c.args.nodes.now c.cases_on.new.nodes c.in_ok-cases.ensures.grows c.args.state.now c.put_first.new.state c.requires.state
    c.put_first.ensures.hyps c.in_err-put_first.ensures.kept

pub returns-in_err-put_first-clause-kept : goal.returns-in_err-put_first-clause-kept
returns-in_err-put_first-clause-kept c =
    on_err c.from_residual-in_err-put_first.result
    (same_seen c.args.nodes.now c.cases_on.new.nodes c.in_ok-cases.ensures.grows c.args.state.now c.put_first.new.state c.requires.state
    c.put_first.ensures.hyps c.in_err-put_first.ensures.kept)

pub returns-clause-state : goal.returns-clause-state
returns-clause-state c =
    split_there c.args.nodes.now c.cases_on.new.nodes c.in_ok-cases.ensures.grows c.args.state.now c.put_first.new.state c.requires.state
    c.put_first.ensures.hyps c.in_ok-cases.cases.items c.in_ok-put_first.ensures.put c.in_ok-cases.ensures.there

pub returns-clause-exact : goal.returns-clause-exact
returns-clause-exact c =
    let self = c.args.self.now in
    let th = self.theory.now in
    let old = c.args.nodes.now in
    let new = c.cases_on.new.nodes in
    let s = c.args.state.now in
    let first = c.in-Some.goal.now in
    let n = slice_index_or self.table.now c.args.term 0 in
    let u : Tree = tree_at old n in
    let ks = c.in-Some-cases.constants.now in
    let hs = c.in_ok-cases.cases.items in
    let H : List Goal = map (goal_at old) s.hyps.items in
    let is : named (terms_at old self) c.args.term ≡ u = table_names old self.table.now c.args.term c.requires.in_table in
    let listed : cases_of th (sort_of u) ≡ Some ks = ap (cases_of th) (sym c.sort.ensures) ∙ sym c.in-Some-cases.ensures in
    let few : length (shared_goal old first).conds < condition_limit =
    omega (arith, c.if-len-ge-MOST_CONDITIONS.false, c.len.ensures, first.conds.ok.0, length-map first.conds.items (pair_at old)) in
    let seen = split_seen old new c.in_ok-cases.ensures.grows s c.put_first.new.state c.requires.state c.put_first.ensures.hyps hs c.in_ok-put_first.ensures.put in
    let P : State → Type 0 = λ b. StepOf th self.gamma.now (Cases (named (terms_at old self) c.args.term)) (state_at old s) b in
    subst P (sym seen)
    (rw is (splits th self.gamma.now u ks H (shared_goals old s.goals.items) (shared_goal old first) (shared_goals new hs)
    (some_seen old s.goals.items c.in-Some.ensures.item.3.0) (front_seen old s.goals.items first c.in-Some.ensures.lookup) few listed c.in_ok-cases.ensures.seen))
