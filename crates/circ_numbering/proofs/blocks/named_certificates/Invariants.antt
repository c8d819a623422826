use Rattle.std.proofs.Common.{drop}
use Rattle.circ_proof.specs.Plain.{plain_links}
use Rattle.circ_plain_search.specs.Numbering.{links_terms, numbered_links}
use Rattle.circ_numbering.proofs.Walks.{IsOnItsWay}
use Rattle.circ_numbering.proofs.blocks.named_certificates.Given as goal

abbrev pub invariant-loop-one : goal.invariant-loop-one
invariant-loop-one l =
    IsOnItsWay (λ x. links_terms (plain_links x.items)) (λ y. plain_links y.items) (λ table x. numbered_links table (plain_links x.items))
    l.fn.table l.recorded (drop l.one-index l.recorded) l.table l.certificates.items
