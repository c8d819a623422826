use Rattle.std.proofs.Common.{rules}
use Rattle.std.proofs.lemmas.List.Sorted.{answers_always}
use Rattle.circ_term.specs.Order.{comes_before}
use Rattle.circ_term.proofs.Order.{ranks}
use Rattle.circ_aci.proofs.Settled.{sorted_is}
use Rattle.circ_aci.proofs.contents.sort.Goals as goal

pub returns : goal.returns
returns c =
    let sorted = c.sort_unstable_by.ensures.sorted comes_before ranks (answers_always _ _ _ (λ f a r q k. search rules)) in
    sorted_is _ _ c.sort_unstable_by.ensures.permutation sorted
