use Rattle.circ_plain_search.proofs.Coming.{comes_reaches}
use Rattle.circ_plain_search.proofs.laws.what_comes_reaches.Goals as goal

pub returns : goal.returns
returns c = comes_reaches
