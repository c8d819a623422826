use Rattle.std.proofs.Common.{map, ap, refl}
use Rattle.circ_theory.specs.Pairs.{plain_pair}
use Rattle.circ_plain_search.specs.Search.{Is_stuck, Is_spent, Is_too_big, Is_too_deep}
use Rattle.circ_search.specs.Plain.{ending_of}
use Rattle.circ_search.proofs.proving.ended.Goals as goal

pub returns-in-Stuck : goal.returns-in-Stuck
returns-in-Stuck c = λ s. (Is_stuck c.in-Stuck.block c.in-Stuck.goal c.in-Stuck.left c.in-Stuck.right (map plain_pair c.in-Stuck.assumptions.items), ap ending_of c.in-Stuck.is, refl)

pub returns-in-Spent : goal.returns-in-Spent
returns-in-Spent c = λ s. (Is_spent c.in-Spent.rewrites c.in-Spent.derives c.in-Spent.steps, ap ending_of c.in-Spent.is, refl)

pub returns-in-TooBig : goal.returns-in-TooBig
returns-in-TooBig c = λ s. (Is_too_big c.in-TooBig.nodes, ap ending_of c.in-TooBig.is, refl)

pub returns-in-TooDeep : goal.returns-in-TooDeep
returns-in-TooDeep c = λ s. (Is_too_deep c.in-TooDeep.depth, ap ending_of c.in-TooDeep.is, refl)
