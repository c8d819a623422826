use Rattle.std.proofs.Common.{ap, sym, ◌∙◌}
use Rattle.std.specs.Option.{option_map_or}
use Rattle.circ_expansion.specs.Expand.{followed_at, no_followed}
use Rattle.circ_book.specs.Book.{followed_by, kept_at}
use Rattle.circ_tasks.specs.Tasks.{followed_at_end}
use Rattle.circ_tasks.proofs.Background.{followed_one}
use Rattle.circ_tasks.proofs.calls.Frame.hypothesis.Goals as goal

pub returns-in_default : goal.returns-in_default
returns-in_default c =
    let fr = c.args.self.now in
    c.nothing.ensures fr ∙ ap (λ o. followed_at (followed_at_end fr o) c.args.number) (sym c.in_default.is)

pub returns-in-Some-hypothesis : goal.returns-in-Some-hypothesis
returns-in-Some-hypothesis c =
    let fr = c.args.self.now in
    let f = followed_by fr.table.now fr.book.now.nodes.items in
    ap (λ o. option_map_or f o no_followed) (sym c.in-Some-hypothesis.is ∙ c.hypothesis.ensures) ∙ sym (followed_one (kept_at fr.book.now c.in-Some.block) f c.args.number)
    ∙ ap (λ o. followed_at (followed_at_end fr o) c.args.number) (sym c.in-Some.is)

pub returns-in-None : goal.returns-in-None
returns-in-None c =
    let fr = c.args.self.now in
    let f = followed_by fr.table.now fr.book.now.nodes.items in
    c.nothing-in-None.ensures fr ∙ ap (λ o. option_map_or f o no_followed) (sym c.in-None.is ∙ c.hypothesis.ensures)
    ∙ sym (followed_one (kept_at fr.book.now c.in-Some.block) f c.args.number) ∙ ap (λ o. followed_at (followed_at_end fr o) c.args.number) (sym c.in-Some.is)
