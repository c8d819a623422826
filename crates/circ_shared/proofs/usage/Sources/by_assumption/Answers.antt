use Rattle.std.proofs.Common.{sym}
use Rattle.circ_proof.specs.Plain.{Assumption_link}
use Rattle.circ_nodes.specs.Named.{tree_at}
use Rattle.circ_replay.specs.Following.{Follows}
use Rattle.circ_replay.specs.Rewriting.{GivesExchange}
use Rattle.circ_shared.specs.Patterns.{pair_at}
use Rattle.circ_shared.specs.Settings.{setting_at}
use Rattle.circ_shared.proofs.Sharing.{if_of_term}
use Rattle.circ_shared.proofs.Using.{listed_map, assumption_follows, turned_from, turned_to}
use Rattle.circ_shared.proofs.usage.Sources.by_assumption.Goals as goal

pub returns-clause-exact : goal.returns-clause-exact
returns-clause-exact c =
    let nodes = c.args.nodes.now in
    let s = setting_at nodes c.args.self.now c.args.assumptions.now in
    let a = c.in-Some.assumption in
    let r = c.turned.result in
    let t = tree_at nodes c.args.term in
    if_of_term c.exchange.new.nodes (GivesExchange t c.args.path.now (tree_at nodes r.from) (tree_at nodes r.to)) (Follows s (Assumption_link c.args.number c.args.way c.args.path.now) t)
    (assumption_follows s c.args.number (pair_at nodes a) c.args.way c.args.path.now t (tree_at nodes r.from) (tree_at nodes r.to)
    (listed_map (pair_at nodes) c.args.assumptions.now c.args.number a (sym c.in-Some.ensures))
    (turned_from nodes c.args.way a r c.turned.ensures) (turned_to nodes c.args.way a r c.turned.ensures))
    c.exchange.result c.exchange.ensures.exact
