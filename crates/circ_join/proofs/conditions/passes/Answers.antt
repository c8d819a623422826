use Rattle.std.proofs.Common.{◌-◌, Some, map, refl, sym, subst, arith}
use Rattle.circ_term.specs.Subst.{substitution_of}
use Rattle.circ_theory.specs.Pairs.{plain_pair}
use Rattle.circ_rewrite.specs.Plain.{plain_passes}
use Rattle.circ_tries.specs.Trying.{FindsPasses}
use Rattle.circ_tries.proofs.Tried.{tried_out, tried_some, some_conditions}
use Rattle.circ_join.specs.Trying.{normaliser_of}
use Rattle.circ_join.proofs.conditions.passes.Goals as goal

pub returns-then-budget-eq0-clause-exact : goal.returns-then-budget-eq0-clause-exact
returns-then-budget-eq0-clause-exact c =
    let f = normaliser_of c.args.reducer.now in
    let conds = c.args.conds.now in
    let some = some_conditions plain_pair conds (map plain_pair conds) c.is_empty.result refl c.is_empty.ensures c.if-is_empty.false in
    (tried_out (Some f) (substitution_of c.args.subst.now) f (map plain_pair conds) c.args.budget.now some refl (omega (arith, c.if-budget-eq0.true)), omega (arith, c.if-budget-eq0.true))

pub returns-clause-exact : goal.returns-clause-exact
returns-clause-exact c =
    let f = normaliser_of c.args.reducer.now in
    let σ = substitution_of c.args.subst.now in
    let conds = c.args.conds.now in
    let k = c.args.budget.now in
    let some = some_conditions plain_pair conds (map plain_pair conds) c.is_empty.result refl c.is_empty.ensures c.if-is_empty.false in
    let same = tried_some (Some f) σ f (map plain_pair conds) k some refl (omega (arith, c.if-budget-eq0.false)) in
    subst (λ w. FindsPasses (λ v. plain_passes v.items) c.all_hold.new.budget w c.all_hold.result) (sym same) c.all_hold.ensures.exact
