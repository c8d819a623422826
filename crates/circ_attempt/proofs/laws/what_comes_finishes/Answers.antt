use Rattle.circ_attempt.proofs.Coming.{comes_finishes}
use Rattle.circ_attempt.proofs.laws.what_comes_finishes.Goals as goal

pub returns : goal.returns
returns c = comes_finishes
