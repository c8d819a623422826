use Rattle.std.proofs.Common.{[], ◌∷◌, drop}
use Rattle.circ_proof.specs.Table.{number_in}
use Rattle.circ_numbering.proofs.Walks.{IsOnItsWay}
use Rattle.circ_numbering.proofs.asking.numbers.Given as goal

abbrev pub invariant-loop-term : goal.invariant-loop-term
invariant-loop-term l = IsOnItsWay (λ t. t ∷ []) (λ n. n) number_in l.fn.table l.terms (drop l.term-index l.terms) l.table l.numbers.items
