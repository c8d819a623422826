use Rattle.circ_nodes.specs.Named.{tree_at}
use Rattle.circ_shared.proofs.AsTheyStand.{plain_rewriting}
use Rattle.circ_shared.proofs.Using.{turned_from, turned_to}
use Rattle.circ_shared.proofs.usage.Sources.by_sides.Goals as goal

pub returns-clause-exact : goal.returns-clause-exact
returns-clause-exact c =
    let nodes = c.args.nodes.now in
    let p = c.args.pattern.now in
    let r = c.turned.result in
    plain_rewriting nodes c.exchange.new.nodes p c.args.way c.args.path.now (tree_at nodes c.args.term) (tree_at nodes r.from) (tree_at nodes r.to)
    c.requires.pattern c.requires.variables c.requires.conditions
    (turned_from nodes c.args.way p.sides r c.turned.ensures) (turned_to nodes c.args.way p.sides r c.turned.ensures)
    c.in_ok-made.made c.unconditional.result c.unconditional.ensures c.in_ok-made.ensures.exact
