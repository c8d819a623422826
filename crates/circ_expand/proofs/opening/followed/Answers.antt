use Rattle.std.proofs.Common.{ap, sym, ◌∙◌}
use Rattle.std.specs.Option.{option_map_or}
use Rattle.circ_expansion.specs.Expand.{no_followed}
use Rattle.circ_book.specs.Book.{followed_by}
use Rattle.circ_expansion.proofs.Numbers.{got, got_none}
use Rattle.circ_expand.proofs.opening.followed.Goals as goal

pub returns-in-Some : goal.returns-in-Some
returns-in-Some c =
    let fr = c.args.frame.now in
    let f = followed_by fr.table.now fr.book.now.nodes.items in
    let there = rw c.deref.ensures.value at c.in-Some.ensures.lookup in
    sym (ap (λ o. option_map_or f o no_followed) (got fr.book.now.goals.items c.args.goal c.in-Some.followed.now there.3.0 there.1))

pub returns-in-None : goal.returns-in-None
returns-in-None c =
    let fr = c.args.frame.now in
    let f = followed_by fr.table.now fr.book.now.nodes.items in
    c.nothing.ensures fr ∙ sym (ap (λ o. option_map_or f o no_followed) (got_none fr.book.now.goals.items c.args.goal (rw c.deref.ensures.value at c.in-None.ensures.lookup.3)))
