use Rattle.std.proofs.Common.{refl}
use Rattle.circ_table.specs.Keys.{mixed}
use Rattle.circ_table.proofs.keys.mixed.Goals as goal

pub returns : goal.returns
unfolding mixed
returns c = refl
