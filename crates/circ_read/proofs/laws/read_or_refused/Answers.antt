use Rattle.circ_read.proofs.Total.{read_total}
use Rattle.circ_read.proofs.laws.read_or_refused.Goals as goal

pub returns : goal.returns
returns c = read_total c.cut_in_one_way.ensures.some
