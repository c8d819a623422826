use Rattle.std.proofs.Common.{ap, take, ◌∙◌}
use Rattle.circ_nodes.specs.Rows.{roots}
use Rattle.circ_nodes.proofs.Behind.{trees_cut}
use Rattle.circ_nodes.proofs.Storing.{terms_cut}
use Rattle.circ_nodes.proofs.nodes.Nodes.cut.Goals as goal

pub invariant_of-self : goal.invariant_of-self
invariant_of-self c =
    let first = c.truncate.ensures in
    terms_cut c.self.inside.rows c.truncate.new.self c.self.inside.chains c.truncate-2.new.self c.self.invariant first.rows c.args.count first.roots first.weights c.truncate-2.ensures

pub returns : goal.returns
returns c = trees_cut (roots c.self.inside.rows) (roots c.truncate.new.self) c.args.count c.truncate.ensures.roots ∙ ap (take c.args.count) c.self.view_is
