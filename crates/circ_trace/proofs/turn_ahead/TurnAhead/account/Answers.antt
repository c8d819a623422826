use Rattle.std.proofs.Common.{◌≡◌, ◌∷◌, [], List, drop, ap, sym, subst}
use Rattle.std.specs.Prelude.{IfOk}
use Rattle.circ_term.proofs.Within.{drop_read}
use Rattle.circ_theory.specs.Goal.{Goal}
use Rattle.circ_attempt.specs.Search.{going}
use Rattle.circ_turn.specs.Standing.{standing, conduct_with}
use Rattle.circ_turn.proofs.Earlier.{none_there}
use Rattle.circ_turn.proofs.Turning.{front_few}
use Rattle.circ_trace.specs.Account.{account_at, plain_account_if}
use Rattle.circ_trace.proofs.turn_ahead.TurnAhead.account.Goals as goal

pub returns-in-None-clause-exact : goal.returns-in-None-clause-exact
returns-in-None-clause-exact c =
    let q : c.args.self.now.state.now.queue.items ≡ [] = none_there c.args.self.now.state.now.queue.items c.args.self.now.state.now.queue.len (sym c.args.self.now.state.now.queue.ok.0) c.in-None.ensures.variant.1 in
    sym (ap (account_at c.args.self.now.search.now.theory.now c.args.self.now.search.now.gamma.now (conduct_with c.args.self.now.search.now.limits) (going (standing c.args.self.now.state.now) c.args.self.now.passed.now)) q)

pub returns-in-Some-clause-exact : goal.returns-in-Some-clause-exact
returns-in-Some-clause-exact c =
    let Q : List Goal = c.args.self.now.state.now.queue.items in
    let front : Q ≡ c.in-Some.goal.now ∷ drop 1 Q = drop_read Q 0 c.in-Some.goal.now c.in-Some.ensures.item.3.0 c.in-Some.ensures.lookup in
    let P : List Goal → Type 0
    = λ q. IfOk c.goal_account.result (λ o. plain_account_if o ≡ account_at c.args.self.now.search.now.theory.now c.args.self.now.search.now.gamma.now (conduct_with c.args.self.now.search.now.limits) (going (standing c.args.self.now.state.now) c.args.self.now.passed.now) q) in
    subst P (sym front) c.goal_account.ensures.exact

pub goal_account-requires-clause-few : goal.goal_account-requires-clause-few
goal_account-requires-clause-few c =
    let Q : List Goal = c.args.self.now.state.now.queue.items in
    let front : Q ≡ c.in-Some.goal.now ∷ drop 1 Q = drop_read Q 0 c.in-Some.goal.now c.in-Some.ensures.item.3.0 c.in-Some.ensures.lookup in
    front_few Q c.in-Some.goal.now (drop 1 Q) front c.requires.small.few_conds
