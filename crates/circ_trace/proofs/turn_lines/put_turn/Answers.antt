use Rattle.std.proofs.Common.{◌≡◌, ◌∷◌, [], ◌++◌, List, drop, sym, subst}
use Rattle.std.specs.Prelude.{OnOk}
use Rattle.circ_term.proofs.Within.{drop_read}
use Rattle.circ_theory.specs.Goal.{Goal}
use Rattle.circ_turn.specs.Standing.{standing}
use Rattle.circ_turn.proofs.Earlier.{none_there}
use Rattle.circ_trace.specs.Account.{plain_account_if}
use Rattle.circ_trace.specs.TurnText.{text_at}
use Rattle.circ_trace.proofs.turn_lines.put_turn.Goals as goal

pub returns-in-None : goal.returns-in-None
returns-in-None c =
    let q : c.args.state.now.queue.items ≡ [] = none_there c.args.state.now.queue.items c.args.state.now.queue.len (sym c.args.state.now.queue.ok.0) c.in-None.ensures.variant.1 in
    let P : List Goal → Type 0
    = λ x. OnOk c.put_done.result (c.put_done.new.out.items ≡ c.args.out.now.items ++ text_at c.args.theory.now c.args.waiting.now.items (standing c.args.state.now) (plain_account_if c.args.account.now) x) in
    subst P (sym q) c.put_done.ensures

pub returns-in-Some : goal.returns-in-Some
returns-in-Some c =
    let Q : List Goal = c.args.state.now.queue.items in
    let front : Q ≡ c.in-Some.goal.now ∷ drop 1 Q = drop_read Q 0 c.in-Some.goal.now c.in-Some.ensures.item.3.0 c.in-Some.ensures.lookup in
    let P : List Goal → Type 0
    = λ x. OnOk c.put_goal_turn.result (c.put_goal_turn.new.out.items ≡ c.args.out.now.items ++ text_at c.args.theory.now c.args.waiting.now.items (standing c.args.state.now) (plain_account_if c.args.account.now) x) in
    subst P (sym front) c.put_goal_turn.ensures
