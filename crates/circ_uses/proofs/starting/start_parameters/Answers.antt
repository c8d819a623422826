use Rattle.std.proofs.Common.{◌≡◌, ℕ, ◌∙◌, arith}
use Rattle.circ_theory.specs.Fresh.{given_parameters}
use Rattle.circ_uses.specs.Starting.{StartsWith}
use Rattle.circ_uses.specs.Valuations.{valued_by}
use Rattle.circ_uses.specs.declared.valuation.Valuation.{Valuation}
use Rattle.circ_uses.proofs.Beginning.{few_sorts, few_terms, starts_with, starts_with_none, if_ok}
use Rattle.circ_uses.proofs.starting.start_parameters.Goals as goal

pub variables_from-requires : goal.variables_from-requires
variables_from-requires c =
    let few = few_sorts c.args.theory.now c.known.ensures c.args.derivative c.args.first c.in-Some.sorts.now c.in-Some.ensures in
    omega (arith, few, c.requires)

pub parameters-requires : goal.parameters-requires
parameters-requires c =
    few_terms c.args.theory.now c.known.ensures c.args.derivative c.args.first c.in-Some.sorts.now c.in-Some.ensures c.as_slice.result.now
    (c.as_slice.ensures.value ∙ c.in_ok-terms-in-Some.ensures)

pub returns-in_ok-terms-in-Some : goal.returns-in_ok-terms-in-Some
returns-in_ok-terms-in-Some c =
    let th = c.args.theory.now in
    let ts = c.as_slice.result.now in
    let P : Valuation → Type 0 = λ v. (m s : ℕ) → valued_by v m s ≡ given_parameters ts m s in
    if_ok P (StartsWith th c.args.derivative c.args.first) c.parameters.result
    (starts_with th c.known.ensures c.args.derivative c.args.first c.in-Some.sorts.now c.in-Some.ensures ts (c.as_slice.ensures.value ∙ c.in_ok-terms-in-Some.ensures))
    c.parameters.ensures

pub returns-in-None : goal.returns-in-None
returns-in-None c = starts_with_none c.args.theory.now c.args.derivative c.args.first c.new.result c.in-None.ensures
