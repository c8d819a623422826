use Rattle.std.proofs.Common.{ap}
use Rattle.circ_nodes.specs.Named.{tree_at}
use Rattle.circ_certificates.specs.declared.guard.Asked.{Asked}
use Rattle.circ_certificates.specs.Covering.{numbered_terms}
use Rattle.circ_certificates.proofs.Covering.{root_told}
use Rattle.circ_certificates.proofs.guard.guarded.Goals as goal

pub holds-requires-clause-visit : goal.holds-requires-clause-visit
holds-requires-clause-visit c = record { term = c.requires.term; bodies = rw c.new.ensures.items tt }

pub returns : goal.returns
returns c =
    let a : Asked = record { rules = c.args.rules.now; nodes = c.args.nodes; id = c.args.id; sort = c.args.sort } in
    root_told a (tree_at c.args.nodes.now c.args.term) (numbered_terms a c.new.result.items) (ap (numbered_terms a) c.new.ensures.items) c.holds.result c.holds.ensures.exact
