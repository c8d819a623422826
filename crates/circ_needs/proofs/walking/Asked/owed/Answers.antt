use Rattle.std.proofs.Common.{subst, arith}
use Rattle.circ_theory.specs.WellFormed.{IsWellFormed}
use Rattle.circ_needs.proofs.Owing.{met_last}
use Rattle.circ_needs.proofs.walking.Asked.owed.Goals as goal

pub returns : goal.returns
returns c =
    let row = c.above.result.now in
    let ok = subst IsWellFormed c.theory.ensures c.known.ensures in
    met_last c.args.self.now ok c.args.path.now c.args.here.now c.args.op c.requires row c.above.ensures c.owed_by_all.result c.owed_by_all.ensures
