use Rattle.std.proofs.Common.{List, ap, sym, subst, ◌∙◌}
use Rattle.circ_theory.specs.Variables.{Variable, variables_of, sorted}
use Rattle.circ_nodes.specs.Named.{AreNamed}
use Rattle.circ_shared.specs.Patterns.{variable_trees}
use Rattle.circ_shared.proofs.Sharing.{there_later, are_there_later, goal_stays}
use Rattle.circ_shared.proofs.variables.pattern.Goals as goal

pub returns-clause-pattern : goal.returns-clause-pattern
returns-clause-pattern c =
    let old = c.args.nodes.now in
    let new = c.numbers_of.new.nodes in
    let g = c.in_ok-variables-2.ensures.grows in
    let E = c.args.conds.items in
    let s = c.args.sides in
    let gathered = rw c.as_slice.ensures.value at c.in_ok-variables.ensures in
    let P : List Variable → Type 0 = λ vs. AreNamed new c.in_ok-variables-2.variables.items (variable_trees vs) in
    record {
      there = there_later old new g s c.requires.sides;
      conditions = are_there_later old new g E c.requires.conditions;
      variables = subst P (gathered ∙ ap (λ q. sorted (variables_of q)) (sym (goal_stays old new g E s c.requires.conditions c.requires.sides))) c.in_ok-variables-2.ensures.named;
    }
