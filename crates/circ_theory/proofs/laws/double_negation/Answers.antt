use Rattle.std.proofs.Common.{[], true, refl, arith}
use Rattle.circ_term.specs.Tree.{Tree, Var, App, none}
use Rattle.circ_pairs.specs.declared.goals.Equation.{Equation}
use Rattle.circ_theory.specs.Signature.{IsWellSorted, IsSubstitution}
use Rattle.circ_pairs.specs.Goal.{goal_of}
use Rattle.circ_theory.specs.Theory.{listed}
use Rattle.circ_theory.specs.Derivable.{Derivable, by_chain, by_operator, by_equation, more_args, no_args}
use Rattle.circ_theory.specs.Examples.{bits, zero_bit, negation}
use Rattle.circ_theory.proofs.laws.double_negation.Goals as goal

pub returns : goal.returns
returns c =
    let one : Tree = App 1 0 none in
    let of_zero : Equation = record { left = negation zero_bit; right = one; conds = []; exec = true } in
    let of_one : Equation = record { left = negation one; right = zero_bit; conds = []; exec = true } in
    let kept : IsSubstitution bits.signature Var = λ n s h. (refl, h) in
    let not_zero : IsWellSorted bits.signature (negation zero_bit) = (_, refl, refl, (refl, (_, refl, refl, tt), tt)) in
    let not_one : IsWellSorted bits.signature (negation one) = (_, refl, refl, (refl, (_, refl, refl, tt), tt)) in
    let inner : Derivable bits [] (negation zero_bit) one = by_equation (goal_of of_zero) Var (listed of_zero (0, omega arith, refl)) kept (λ p k. absurd (omega (arith, k.1))) in
    let outer : Derivable bits [] (negation one) zero_bit = by_equation (goal_of of_one) Var (listed of_one (1, omega arith, refl)) kept (λ p k. absurd (omega (arith, k.1))) in
    by_chain (negation one) (by_operator 2 0 (_, refl, refl, (refl, not_zero, tt)) not_one (more_args inner no_args)) outer
