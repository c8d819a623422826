use Rattle.std.proofs.Common.{◌≡◌, drop}
use Rattle.circ_plain_search.specs.Joining.{put_all}
use Rattle.circ_join.specs.Uses.{plain_uses}
use Rattle.circ_join.proofs.putting.put_all.Given as goal

abbrev pub invariant-loop-one : goal.invariant-loop-one
invariant-loop-one l = put_all l.whole (plain_uses (drop l.one-index l.uses)) ≡ put_all l.term (plain_uses l.uses)
