use Rattle.std.proofs.Common.{◌≡◌, ◌++◌, ◌∷◌, [], ℕ, ap, ◌∙◌, refl, subst}
use Rattle.circ_term.specs.Tree.{App, none}
use Rattle.circ_nodes.specs.Named.{IsNamed}
use Rattle.circ_shared.specs.declared.patterns.Sides.{Sides}
use Rattle.circ_steps.specs.declared.states.SharedGoal.{SharedGoal}
use Rattle.circ_steps.proofs.Splitting.{case_seen}
use Rattle.circ_steps.proofs.cases.case_on.Goals as goal

pub returns-clause-seen : goal.returns-clause-seen
returns-clause-seen c =
    let x = c.args.goal.now in
    let new = c.constant_of.new.nodes in
    let s : Sides = record { left = c.args.term; right = c.in_ok-right.right } in
    let y : SharedGoal = record { conds = c.push.new.self; sides = x.sides } in
    let copied = c.in_ok-conds.ensures.items ∙ c.as_slice.ensures.value in
    let put : y.conds.items ≡ x.conds.items ++ s ∷ [] = c.in_ok-push.ensures.items ∙ ap (λ xs. xs ++ s ∷ []) copied in
    let P : ℕ → Type 0 = λ k. IsNamed new c.in_ok-right.right (App c.args.constant k none) in
    case_seen c.args.nodes.now new c.in_ok-right.ensures.grows x y c.args.term c.in_ok-right.right c.args.constant c.requires.term c.requires.goal refl put
    (subst P c.sort-sort.ensures c.in_ok-right.ensures.named)
