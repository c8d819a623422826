use Rattle.std.proofs.Common.{rules}
use Rattle.std.specs.List.Sorted.{IsNonDecreasingBy}
use Rattle.std.proofs.lemmas.List.Sorted.{IsNonDecreasingBy-from_sort_by_key}
use Rattle.circ_weigh.specs.declared.weighing.Part.{Part}
use Rattle.circ_weigh.proofs.Leaves.{if_out_moved, if_tilts_moved}
use Rattle.circ_weigh.proofs.runs.balances_out.Goals as goal

pub runs_balance-requires : goal.runs_balance-requires
runs_balance-requires c =
    let up : IsNonDecreasingBy (λ (p : Part). p.number) c.sort_unstable_by_key.new.self.items =
    IsNonDecreasingBy-from_sort_by_key (λ (p : Part). p.number) _ c.sort_unstable_by_key.ensures.sorted (λ a r q k. search rules) in
    record { sorted = rw c.deref.ensures.value up }

pub returns-clause-out : goal.returns-clause-out
returns-clause-out c =
    if_out_moved c.runs_balance.result c.args.leaves.items c.deref.result.now
    (rw c.deref.ensures.value c.sort_unstable_by_key.ensures.permutation) c.runs_balance.ensures.out

pub returns-clause-tilts : goal.returns-clause-tilts
returns-clause-tilts c =
    if_tilts_moved c.runs_balance.result c.args.leaves.items c.deref.result.now
    (rw c.deref.ensures.value c.sort_unstable_by_key.ensures.permutation) c.runs_balance.ensures.tilts
