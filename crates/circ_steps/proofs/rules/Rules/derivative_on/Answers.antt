use Rattle.std.proofs.Common.{Err, Ok, map, sym, subst, ap, ◌∙◌, arith}
use Rattle.std.specs.List.{slice_get}
use Rattle.std.specs.Option.{IfSome}
use Rattle.circ_term.specs.Tree.{Tree}
use Rattle.circ_theory.specs.Goal.{Goal}
use Rattle.circ_theory.specs.Fresh.{FitSome}
use Rattle.circ_nodes.specs.Named.{tree_at}
use Rattle.circ_nodes.proofs.Located.{tree_later}
use Rattle.circ_nodes.proofs.Numbers.{all_below}
use Rattle.circ_proof.proofs.Derivatives.{left_fits, right_fits}
use Rattle.circ_rules.specs.Derivatives.{instances_on}
use Rattle.circ_shared.specs.Patterns.{goal_at}
use Rattle.circ_shared.proofs.Sharing.{goal_stays, pattern_later}
use Rattle.circ_steps.specs.Derivatives.{BuildsBothAt}
use Rattle.circ_steps.proofs.Deriving.{rules_later, makes_one, makes_none}
use Rattle.circ_steps.proofs.Numbering.{terms_named}
use Rattle.circ_steps.proofs.rules.Rules.derivative_on.Goals as goal

pub both_sides-requires-clause-rules : goal.both_sides-requires-clause-rules
both_sides-requires-clause-rules c = rules_later c.args.nodes.now c.variables.new.nodes c.in_ok-params.ensures.grows c.args.self.now c.requires.rules

pub both_sides-requires-clause-goal : goal.both_sides-requires-clause-goal
both_sides-requires-clause-goal c = pattern_later c.args.nodes.now c.variables.new.nodes c.in_ok-params.ensures.grows c.args.goal.now c.requires.goal

pub both_sides-requires-clause-params : goal.both_sides-requires-clause-params
both_sides-requires-clause-params c = rw c.as_slice.ensures.value (all_below c.variables.new.nodes c.in_ok-params.params.items _ c.in_ok-params.ensures.named)

pub both_sides-requires-clause-left : goal.both_sides-requires-clause-left
both_sides-requires-clause-left c =
    let old = c.args.nodes.now in
    let new = c.variables.new.nodes in
    let ds = c.args.self.now.theory.now.derivatives in
    let params = map (tree_at new) c.as_slice.result.now in
    let made = ap (map (tree_at new)) c.as_slice.ensures.value ∙ terms_named new c.in_ok-params.params.items _ c.in_ok-params.ensures.named in
    let P : Tree → Type 0 = FitSome (slice_get ds c.args.derivative) params in
    subst P (sym (tree_later old new c.args.goal.now.sides.left c.in_ok-params.ensures.grows c.requires.goal.there.0))
    (left_fits c.args.self.now.theory.now c.known.ensures c.args.derivative (goal_at old c.args.goal.now) c.requires.sorted c.args.fresh c.requires.fresh c.requires.hole
    c.in-Some.sorts.now c.in-Some.ensures params made)

pub both_sides-requires-clause-right : goal.both_sides-requires-clause-right
both_sides-requires-clause-right c =
    let old = c.args.nodes.now in
    let new = c.variables.new.nodes in
    let ds = c.args.self.now.theory.now.derivatives in
    let params = map (tree_at new) c.as_slice.result.now in
    let made = ap (map (tree_at new)) c.as_slice.ensures.value ∙ terms_named new c.in_ok-params.params.items _ c.in_ok-params.ensures.named in
    let P : Tree → Type 0 = FitSome (slice_get ds c.args.derivative) params in
    subst P (sym (tree_later old new c.args.goal.now.sides.right c.in_ok-params.ensures.grows c.requires.goal.there.1))
    (right_fits c.args.self.now.theory.now c.known.ensures c.args.derivative (goal_at old c.args.goal.now) c.requires.sorted c.args.fresh c.requires.fresh c.requires.hole
    c.in-Some.sorts.now c.in-Some.ensures params made)

pub returns-in-Ok-clause-exact : goal.returns-in-Ok-clause-exact
returns-in-Ok-clause-exact c =
    let old = c.args.nodes.now in
    let new = c.variables.new.nodes in
    let ds = c.args.self.now.theory.now.derivatives in
    let p = c.args.goal.now in
    let params = map (tree_at new) c.as_slice.result.now in
    let made = ap (map (tree_at new)) c.as_slice.ensures.value ∙ terms_named new c.in_ok-params.params.items _ c.in_ok-params.ensures.named in
    let same = goal_stays old new c.in_ok-params.ensures.grows p.conds.items p.sides c.requires.goal.conditions c.requires.goal.there in
    let Q : Goal → Type 0 = λ g. IfSome (slice_get ds c.args.derivative) (λ d. BuildsBothAt c.both_sides.new.nodes (instances_on d params g) (Ok c.in-Ok.goal)) in
    makes_one c.args.self.now.theory.now c.known.ensures c.args.derivative (goal_at old p) c.requires.sorted c.args.fresh c.requires.fresh c.requires.hole
    c.in-Some.sorts.now c.in-Some.ensures (omega (arith, c.if-fresh-sorts.false)) params made c.both_sides.new.nodes c.in-Ok.goal
    (subst Q same (rw c.in-Ok.is at c.both_sides.ensures.exact))

pub returns-clause-exact : goal.returns-clause-exact
returns-clause-exact c =
    let old = c.args.nodes.now in
    let new = c.variables.new.nodes in
    let ds = c.args.self.now.theory.now.derivatives in
    let p = c.args.goal.now in
    let params = map (tree_at new) c.as_slice.result.now in
    let made = ap (map (tree_at new)) c.as_slice.ensures.value ∙ terms_named new c.in_ok-params.params.items _ c.in_ok-params.ensures.named in
    let same = goal_stays old new c.in_ok-params.ensures.grows p.conds.items p.sides c.requires.goal.conditions c.requires.goal.there in
    let Q : Goal → Type 0 = λ g. IfSome (slice_get ds c.args.derivative) (λ d. BuildsBothAt c.both_sides.new.nodes (instances_on d params g) (Err c.in-Err.fault)) in
    makes_none c.args.self.now.theory.now c.known.ensures c.args.derivative (goal_at old p) c.requires.sorted c.args.fresh c.requires.fresh c.requires.hole
    c.in-Some.sorts.now c.in-Some.ensures (omega (arith, c.if-fresh-sorts.false)) params made c.both_sides.new.nodes c.in-Err.fault
    (subst Q same (rw c.in-Err.is at c.both_sides.ensures.exact))
