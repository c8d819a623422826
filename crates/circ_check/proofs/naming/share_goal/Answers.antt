use Rattle.std.proofs.Common.{refl, ap, map, ◌∙◌}
use Rattle.circ_nodes.specs.Named.{tree_at}
use Rattle.circ_proof.specs.Proof.{pair_at as named_pair}
use Rattle.circ_proof.specs.PlainProof.{plain_names}
use Rattle.circ_check.proofs.Named.{goal_named, goal_there}
use Rattle.circ_check.proofs.naming.share_goal.Goals as goal

pub returns-clause-there : goal.returns-clause-there
returns-clause-there c nodes t =
    goal_there nodes c.args.table.now (plain_names c.args.name.now) _ c.requires t (c.in_ok-conds.ensures.there nodes t) refl

pub returns-clause-same : goal.returns-clause-same
returns-clause-same c nodes =
    let table = c.args.table.now in
    goal_named nodes table (plain_names c.args.name.now) _ c.requires
    (c.in_ok-conds.ensures.same nodes ∙ ap (map (named_pair (map (tree_at nodes) table))) c.as_slice.ensures.value)
