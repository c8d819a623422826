use Rattle.circ_top.proofs.Requests.{nothing_asked, asked_if}
use Rattle.circ_top.proofs.request.asked.Goals as goal

pub returns-in_default-found : goal.returns-in_default-found
returns-in_default-found c = let m = rw c.in-Some.is at c.in_ok-matches.ensures in nothing_asked _ _ m.1 c.in_default-found.ensures

pub returns : goal.returns
returns c =
    let m = rw c.in-Some.is at c.in_ok-matches.ensures in
    asked_if _ _ m.1 c.in-Some-found.words.limits c.in-Some-found.words.name.now _ c.in-Some-found.ensures c.by_table.result m.0 c.by_table.ensures
