use Rattle.std.proofs.Common.{◌+◌, ◌*◌, drop}
use Rattle.circ_proof.specs.Plain.{plain_why, map_why, plain_whys}
use Rattle.circ_proof.specs.Table.{number_in}
use Rattle.circ_plain_search.specs.Numbering.{why_terms}
use Rattle.circ_numbering.proofs.Reasons.{depth_of_why, depth_of_whys}
use Rattle.circ_numbering.proofs.Walks.{IsOnItsWay}
use Rattle.circ_numbering.proofs.whys.+why.Given as goal

abbrev pub decreases-why : goal.decreases-why
decreases-why l = 2 * depth_of_why (plain_why l.recorded.now)

abbrev pub decreases-whys : goal.decreases-whys
decreases-whys l = 2 * depth_of_whys (plain_whys l.recorded.now) + 1

abbrev pub invariant-whys-loop-one : goal.invariant-whys-loop-one
invariant-whys-loop-one l =
    IsOnItsWay (λ x. why_terms (plain_why x)) plain_why (λ table x. map_why (number_in table) (plain_why x)) l.initial.table l.recorded
    (drop l.one-index l.recorded) l.table l.whys.items
