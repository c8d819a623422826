use Rattle.std.proofs.Common.{unwrap_or, Option, ℕ, ap, sym, ◌∙◌}
use Rattle.std.specs.Option.{option_map_or}
use Rattle.circ_expansion.specs.Followed.{Open, goal_in, no_goal}
use Rattle.circ_book.specs.Histories.{history_at}
use Rattle.circ_tasks.proofs.Background.{target_goal}
use Rattle.circ_tasks.proofs.calls.Frame.goal.Goals as goal

pub returns-in-Some : goal.returns-in-Some
returns-in-Some c =
    let fr = c.args.self.now in
    let H = λ (o : Option ℕ). goal_in (option_map_or (history_at fr.table.now fr.book.now.nodes.items) o Open) in
    ap (λ o. unwrap_or o no_goal) c.goal.ensures ∙ sym (target_goal fr c.in-Some.node) ∙ ap H (sym c.in-Some.is)
