use Rattle.std.proofs.Common.{◌∙◌, suc, sym, refl, arith}
use Rattle.circ_theory.specs.Theory.{pair_with}
use Rattle.circ_read.proofs.GoalTerms.{terms_sorted, terms_in_order}
use Rattle.circ_read.proofs.equations.add_terms.Goals as goal

pub add_equation-requires-clause-sorted : goal.add_equation-requires-clause-sorted
add_equation-requires-clause-sorted c =
    let g = c.in-Some.goal in
    terms_sorted c.args.terms.now g (sym c.in_ok-goal.ensures ∙ c.in-Some.is) c.args.theory.now.signature c.requires.sorted (pair_with g.left g.right) (0, omega arith, refl)

pub add_equation-requires-clause-conds_sorted : goal.add_equation-requires-clause-conds_sorted
add_equation-requires-clause-conds_sorted c = λ p k.
    let l = k.1 in
    terms_sorted c.args.terms.now c.in-Some.goal (sym c.in_ok-goal.ensures ∙ c.in-Some.is) c.args.theory.now.signature c.requires.sorted p (suc k.0, omega arith, k.2)

pub add_equation-requires-clause-in_order : goal.add_equation-requires-clause-in_order
add_equation-requires-clause-in_order c = terms_in_order c.args.terms.now c.in-Some.goal (sym c.in_ok-goal.ensures ∙ c.in-Some.is) c.requires.in_order
