use Rattle.std.proofs.Common.{drop}
use Rattle.circ_theory.specs.Pairs.{plain_pair}
use Rattle.circ_plain_search.specs.Numbering.{side_terms, pair_name}
use Rattle.circ_numbering.proofs.Walks.{IsOnItsWay}
use Rattle.circ_numbering.proofs.blocks.pairs.Given as goal

abbrev pub invariant-loop-one : goal.invariant-loop-one
invariant-loop-one l =
    IsOnItsWay (λ x. side_terms (plain_pair x)) (λ n. n) (λ table x. pair_name table (plain_pair x)) l.fn.table l.recorded
    (drop l.one-index l.recorded) l.table l.pairs.items
