use Rattle.circ_regex.proofs.Once.{spelled_once}
use Rattle.circ_regex.proofs.laws.read_in_one_way.Goals as goal

pub returns : goal.returns
returns c = spelled_once
