use Rattle.std.proofs.Common.{drop}
use Rattle.circ_proof.specs.Table.{number_in}
use Rattle.circ_proof.specs.PlainProof.{plain_step}
use Rattle.circ_proof.specs.Rules.{map_step}
use Rattle.circ_plain_search.specs.Numbering.{step_terms}
use Rattle.circ_numbering.proofs.Walks.{IsOnItsWay}
use Rattle.circ_numbering.proofs.whys.steps.Given as goal

abbrev pub invariant-loop-one : goal.invariant-loop-one
invariant-loop-one l =
    IsOnItsWay (λ x. step_terms (plain_step x)) plain_step (λ table x. map_step (number_in table) (plain_step x)) l.fn.table l.recorded
    (drop l.one-index l.recorded) l.table l.steps.items
