use Rattle.circ_nodes.proofs.Located.{named_tree}
use Rattle.circ_weigh.proofs.comparing.same_built.Goals as goal

pub returns-clause-same : goal.returns-clause-same
returns-clause-same c =
    let nodes = c.args.nodes.now in
    let first = named_tree nodes c.args.a c.in_ok-first.first c.in_ok-first.ensures.named in
    let second = named_tree nodes c.args.b c.in_ok-second.second c.in_ok-second.ensures.named in
    rw (first, second) c.same_content.ensures
