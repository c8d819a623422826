use Rattle.circ_script.proofs.Total.{script_total}
use Rattle.circ_script.proofs.laws.read_or_refused.Goals as goal

pub returns : goal.returns
returns c = script_total c.cut_in_one_way.ensures.some
