use Rattle.std.proofs.Common.{Err, Ok, Option, map, refl, subst, ◌∙◌, arith}
use Rattle.std.proofs.lemmas.Option.{slice_get_within}
use Rattle.circ_theory.specs.Theory.{Derivative}
use Rattle.circ_theory.specs.Fresh.{FitSome}
use Rattle.circ_nodes.specs.Named.{tree_at}
use Rattle.circ_nodes.proofs.Numbers.{grows_more}
use Rattle.circ_proof.proofs.Derivatives.{if_some_at}
use Rattle.circ_rules.specs.Derivatives.{instances_on}
use Rattle.circ_shared.specs.Patterns.{goal_at}
use Rattle.circ_steps.specs.declared.derivative.SharedDerivative.{SharedDerivative}
use Rattle.circ_steps.specs.declared.states.SharedGoal.{SharedGoal}
use Rattle.circ_steps.specs.Derivatives.{IsDerivativeAt, BuildsBothAt}
use Rattle.circ_steps.proofs.Deriving.{fits_later, interned_before, left_stops, right_stops, both_made}
use Rattle.circ_steps.proofs.Numbering.{the_fit, derivative_at, derivative_later, derivatives_length, all_later}
use Rattle.circ_steps.proofs.rules.Rules.both_sides.Goals as goal

pub bounds-self-derivative : goal.bounds-self-derivative
bounds-self-derivative c =
    let ds = c.args.self.now.theory.now.derivatives in
    let f = the_fit _ _ _ c.requires.left in
    let within = slice_get_within ds c.args.derivative f.0 f.1 in
    let long = derivatives_length c.args.nodes.now ds c.args.self.now.derivatives.now c.requires.rules.derivatives in
    omega (arith, within, long)

pub instance_on-requires-clause-fits : goal.instance_on-requires-clause-fits
instance_on-requires-clause-fits c =
    let nodes = c.args.nodes.now in
    let f = the_fit _ _ _ c.requires.left in
    let x = c.index-self-derivative.result in
    let P : SharedDerivative → Type 0 = IsDerivativeAt nodes f.0 in (
      f.0,
      subst P c.index-self-derivative.is
          (derivative_at nodes c.args.self.now.theory.now.derivatives c.args.self.now.derivatives.now c.args.derivative f.0 x c.requires.rules.derivatives f.1
          c.index-self-derivative.is),
      f.2,
    )

pub instance_on-requires-in-Ok-clause-params : goal.instance_on-requires-in-Ok-clause-params
instance_on-requires-in-Ok-clause-params c =
    all_later c.args.nodes.now c.instance_on.new.nodes c.in-Ok.ensures.grows c.args.params.now c.requires.params

pub instance_on-requires-in-Ok-clause-fits : goal.instance_on-requires-in-Ok-clause-fits
instance_on-requires-in-Ok-clause-fits c =
    let old = c.args.nodes.now in
    let mid = c.instance_on.new.nodes in
    let g = c.in-Ok.ensures.grows in
    let f = the_fit _ _ _ c.requires.right in
    let x = c.index-self-derivative.result in
    let P : SharedDerivative → Type 0 = IsDerivativeAt mid f.0 in (
      f.0,
      subst P c.index-self-derivative.is
          (derivative_later old mid g f.0 x
          (derivative_at old c.args.self.now.theory.now.derivatives c.args.self.now.derivatives.now c.args.derivative f.0 x c.requires.rules.derivatives f.1
          c.index-self-derivative.is)),
      fits_later old mid g c.args.params.now c.requires.params c.args.goal.now.sides.right c.requires.goal.there.1 f.0 f.2,
    )

pub returns-in-Err-clause-exact : goal.returns-in-Err-clause-exact
returns-in-Err-clause-exact c =
    let old = c.args.nodes.now in
    let f = the_fit _ _ _ c.requires.left in
    let x = c.index-self-derivative.result in
    let ts = map (tree_at old) c.args.params.now in
    let P : SharedDerivative → Type 0 = IsDerivativeAt old f.0 in
    let is = subst P c.index-self-derivative.is
    (derivative_at old c.args.self.now.theory.now.derivatives c.args.self.now.derivatives.now c.args.derivative f.0 x c.requires.rules.derivatives f.1
    c.index-self-derivative.is) in
    if_some_at (λ d. BuildsBothAt c.instance_on.new.nodes (instances_on d ts (goal_at old c.args.goal.now)) (Err c.in-Err.fault)) _ f.0 f.1
    (left_stops c.instance_on.new.nodes f.0 ts (goal_at old c.args.goal.now) c.in-Err.fault c.instance_on.result c.in-Err.is (c.instance_on.ensures.interns f.0 is f.2))

pub returns-in-Err-instance_on-clause-exact : goal.returns-in-Err-instance_on-clause-exact
returns-in-Err-instance_on-clause-exact c =
    let old = c.args.nodes.now in
    let mid = c.instance_on.new.nodes in
    let new = c.instance_on-in-Ok.new.nodes in
    let g = c.in-Ok.ensures.grows in
    let p = c.args.goal.now in
    let f = the_fit _ _ _ c.requires.left in
    let x = c.index-self-derivative.result in
    let ts = map (tree_at old) c.args.params.now in
    let P : SharedDerivative → Type 0 = IsDerivativeAt old f.0 in
    let M : SharedDerivative → Type 0 = IsDerivativeAt mid f.0 in
    let F : Option Derivative → Type 0 = λ o. FitSome o ts (tree_at old p.sides.right) in
    let here = derivative_at old c.args.self.now.theory.now.derivatives c.args.self.now.derivatives.now c.args.derivative f.0 x c.requires.rules.derivatives f.1
    c.index-self-derivative.is in
    let left = c.instance_on.ensures.interns f.0 (subst P c.index-self-derivative.is here) f.2 in
    let fits = fits_later old mid g c.args.params.now c.requires.params p.sides.right c.requires.goal.there.1 f.0 (subst F f.1 c.requires.right) in
    let right = interned_before old mid g c.args.params.now c.requires.params p.sides.right c.requires.goal.there.1 f.0 new c.instance_on-in-Ok.result
    (c.instance_on-in-Ok.ensures.interns f.0 (subst M c.index-self-derivative.is (derivative_later old mid g f.0 x here)) fits) in
    if_some_at (λ d. BuildsBothAt new (instances_on d ts (goal_at old p)) (Err c.in-Err-instance_on.fault)) _ f.0 f.1
    (right_stops new mid f.0 ts (goal_at old p) c.in-Ok.left c.in-Err-instance_on.fault c.instance_on.result c.instance_on-in-Ok.result c.in-Ok.is c.in-Err-instance_on.is
    left right)

pub returns-in_ok-conds-in-Ok-instance_on-clause-exact : goal.returns-in_ok-conds-in-Ok-instance_on-clause-exact
returns-in_ok-conds-in-Ok-instance_on-clause-exact c =
    let old = c.args.nodes.now in
    let mid = c.instance_on.new.nodes in
    let new = c.instance_on-in-Ok.new.nodes in
    let g = c.in-Ok.ensures.grows in
    let h = c.in-Ok-instance_on.ensures.grows in
    let p = c.args.goal.now in
    let f = the_fit _ _ _ c.requires.left in
    let x = c.index-self-derivative.result in
    let ts = map (tree_at old) c.args.params.now in
    let P : SharedDerivative → Type 0 = IsDerivativeAt old f.0 in
    let M : SharedDerivative → Type 0 = IsDerivativeAt mid f.0 in
    let F : Option Derivative → Type 0 = λ o. FitSome o ts (tree_at old p.sides.right) in
    let here = derivative_at old c.args.self.now.theory.now.derivatives c.args.self.now.derivatives.now c.args.derivative f.0 x c.requires.rules.derivatives f.1
    c.index-self-derivative.is in
    let left = c.instance_on.ensures.interns f.0 (subst P c.index-self-derivative.is here) f.2 in
    let fits = fits_later old mid g c.args.params.now c.requires.params p.sides.right c.requires.goal.there.1 f.0 (subst F f.1 c.requires.right) in
    let right = interned_before old mid g c.args.params.now c.requires.params p.sides.right c.requires.goal.there.1 f.0 new c.instance_on-in-Ok.result
    (c.instance_on-in-Ok.ensures.interns f.0 (subst M c.index-self-derivative.is (derivative_later old mid g f.0 x here)) fits) in
    let y : SharedGoal = record { conds = c.in_ok-conds-in-Ok-instance_on.conds; sides = record { left = c.in-Ok.left; right = c.in-Ok-instance_on.right } } in
    if_some_at (λ d. BuildsBothAt new (instances_on d ts (goal_at old p)) (Ok y)) _ f.0 f.1
    (both_made old mid new g h (grows_more old mid new g h) f.0 ts p c.requires.goal c.in-Ok.left c.in-Ok-instance_on.right c.instance_on.result
    c.instance_on-in-Ok.result c.in-Ok.is c.in-Ok-instance_on.is left right y (c.in_ok-conds-in-Ok-instance_on.ensures.items ∙ c.as_slice.ensures.value) refl)
