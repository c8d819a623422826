use Rattle.std.proofs.Common.{refl}
use Rattle.circ_split.proofs.Splits.{stops_then}
use Rattle.circ_split.proofs.sides.normal_sides.Goals as goal

pub returns-in-Err-normal_side-clause-exact : goal.returns-in-Err-normal_side-clause-exact
returns-in-Err-normal_side-clause-exact c =
    let h = rw c.in-Ok.ensures.same at c.in-Err-normal_side.ensures.exact in
    rw c.in-Ok.ensures.exact (stops_then c.in-Err-normal_side.stop _ _ h)

pub returns-in-Ok-normal_side-clause-exact : goal.returns-in-Ok-normal_side-clause-exact
returns-in-Ok-normal_side-clause-exact c =
    let h = rw c.in-Ok.ensures.same at c.in-Ok-normal_side.ensures.exact in
    rw (c.in-Ok.ensures.exact, h) refl
