use Rattle.circ_nodes.proofs.Numbers.{there_named}
use Rattle.circ_memo.proofs.advancing.advance.Goals as goal

pub replace-made-requires-clause-chosen : goal.replace-made-requires-clause-chosen
replace-made-requires-clause-chosen c =
    let t = there_named c.args.nodes.now c.args.number c.requires.there in
    (t.0, t.1, rw c.in-Some.is at (c.in_ok-choice.ensures.chosen t.0 t.1))

pub returns-clause-advances : goal.returns-clause-advances
returns-clause-advances c = λ t n h.
    let chosen = rw c.in-Some.is at (c.in_ok-choice.ensures.exact t n h) in c.replace-made.ensures.advances t chosen.0 n h chosen.1 chosen.2
