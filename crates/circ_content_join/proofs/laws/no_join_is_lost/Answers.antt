use Rattle.circ_content_join.proofs.Keeps.{joined_kept}
use Rattle.circ_content_join.proofs.laws.no_join_is_lost.Goals as goal

pub returns : goal.returns
returns c = λ f sig G H bare q a b us e k. joined_kept f sig G H bare q a b us e k
