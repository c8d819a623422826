use Rattle.std.proofs.Common.{◌≡◌, ◌+◌, drop, max, ap, arith}
use Rattle.std.proofs.lemmas.List.{drop_all}
use Rattle.circ_nodes.proofs.Located.{named_tree}
use Rattle.circ_shared.proofs.Giving.{variable_at, variables_length}
use Rattle.circ_steps.specs.Derivatives.{above_variables}
use Rattle.circ_steps.proofs.derive.above.Goals as goal

pub loop-variable-preserved : goal.loop-variable-preserved
loop-variable-preserved c =
    let at = c.loop-variable in
    let nodes = c.args.nodes.now in
    let i = at.variable-index in
    record {
      exact = λ vs are.
          let v = variable_at nodes c.args.variables.now vs i are c.loop-variable-test.true in
          let here = c.above_variable.ensures.exact v.variable (named_tree nodes _ _ v.named) in
          let rest : above_variables (drop i vs) ≡ max (v.variable.number + 1) (above_variables (drop (i + 1) vs)) = ap above_variables v.rest in
          let so_far = at.invariant.exact vs are in
          omega (arith, here, rest, so_far, c.greater-most.ensures);
      small = omega (arith, c.above_variable.ensures.small, at.invariant.small, c.greater-most.ensures);
    }

pub returns-clause-exact : goal.returns-clause-exact
returns-clause-exact c = λ vs are.
    let at = c.loop-variable in
    let long = variables_length c.args.nodes.now c.args.variables.now vs are in
    let none : above_variables (drop at.variable-index vs) ≡ 0 = ap above_variables (drop_all at.variable-index vs (omega (arith, long, c.loop-variable-test.false))) in
    let so_far = at.invariant.exact vs are in
    omega (arith, none, so_far)
