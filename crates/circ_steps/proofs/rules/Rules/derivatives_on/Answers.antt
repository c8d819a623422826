use Rattle.std.proofs.Common.{◌≡◌, ◌<◌, ◌==◌, true, false, Ok, Err, Some, List, length, ap, sym, subst, ◌∙◌, arith}
use Rattle.std.specs.List.{slice_get}
use Rattle.std.specs.Option.{IfSome, option_map_or}
use Rattle.circ_term.specs.Tree.{sort_of}
use Rattle.circ_theory.specs.Theory.{IsWellSortedGoal}
use Rattle.circ_theory.specs.Goal.{Goal}
use Rattle.circ_theory.specs.Fresh.{fresh_in}
use Rattle.circ_theory.specs.Variables.{sorted, variables_of}
use Rattle.circ_nodes.proofs.Located.{tree_later}
use Rattle.circ_nodes.proofs.Numbers.{all_below, grows_self, grows_more}
use Rattle.circ_proof.proofs.Derivatives.{hole_is}
use Rattle.circ_rules.proofs.Making.{stands_stopped}
use Rattle.circ_shared.specs.Patterns.{goal_at}
use Rattle.circ_shared.proofs.Sharing.{goal_stays, pattern_later}
use Rattle.circ_steps.specs.declared.states.SharedGoal.{SharedGoal}
use Rattle.circ_steps.specs.Derivatives.{MakesDerivativeAt}
use Rattle.circ_steps.specs.States.{shared_goals}
use Rattle.circ_steps.proofs.Fresh.{fresh_above}
use Rattle.circ_steps.proofs.Deriving.{Stands, rules_later, stands_none, stands_next, stands_over, stands_all}
use Rattle.circ_steps.proofs.rules.Rules.derivatives_on.Goals.{then-takes+in-Ok+in_ok-push_back-in-Ok, else-takes}
use Rattle.circ_steps.proofs.rules.Rules.derivatives_on.Goals as goal

pub above-fresh-requires : goal.above-fresh-requires
above-fresh-requires c = rw c.as_slice.ensures.value (all_below c.args.nodes.now c.args.goal.now.variables.items _ c.requires.goal.variables)

pub loop-derivative-init : goal.loop-derivative-init
loop-derivative-init c =
    let old = c.args.nodes.now in
    let g = goal_at old c.args.goal.now in
    let P : List SharedGoal → Type 0 = Stands c.args.self.now.theory.now g old 0 in
    record { grows = grows_self old; stands = subst P (sym c.new-derived.ensures.items) (stands_none c.args.self.now.theory.now g old) }

pub derivative_on-requires-clause-rules : goal.derivative_on-requires-clause-rules
derivative_on-requires-clause-rules c =
    rules_later c.args.nodes.now c.loop-derivative.nodes c.loop-derivative.invariant.grows c.args.self.now c.requires.rules

pub derivative_on-requires-clause-goal : goal.derivative_on-requires-clause-goal
derivative_on-requires-clause-goal c =
    pattern_later c.args.nodes.now c.loop-derivative.nodes c.loop-derivative.invariant.grows c.args.goal.now c.requires.goal

pub derivative_on-requires-clause-sorted : goal.derivative_on-requires-clause-sorted
derivative_on-requires-clause-sorted c =
    let p = c.args.goal.now in
    let same = goal_stays c.args.nodes.now c.loop-derivative.nodes c.loop-derivative.invariant.grows p.conds.items p.sides c.requires.goal.conditions
    c.requires.goal.there in
    let P : Goal → Type 0 = IsWellSortedGoal c.args.self.now.theory.now in
    subst P (sym same) c.requires.sorted

pub derivative_on-requires-clause-hole : goal.derivative_on-requires-clause-hole
derivative_on-requires-clause-hole c =
    let ds = c.args.self.now.theory.now.derivatives in
    let p = c.args.goal.now in
    let g = goal_at c.args.nodes.now p in
    let i = c.loop-derivative.derivative in
    let takes : option_map_or (λ d. d.hole == sort_of g.left) (slice_get ds i) false ≡ true = rw c.sort-sort.ensures at (sym c.takes.ensures ∙ c.if-takes.true) in
    hole_is ds (sort_of g.left) i takes
    ∙ ap (λ t. Some (sort_of t)) (sym (tree_later c.args.nodes.now c.loop-derivative.nodes p.sides.left c.loop-derivative.invariant.grows c.requires.goal.there.0))

pub derivative_on-requires-clause-fresh : goal.derivative_on-requires-clause-fresh
derivative_on-requires-clause-fresh c =
    let p = c.args.goal.now in
    let g = goal_at c.args.nodes.now p in
    let same = goal_stays c.args.nodes.now c.loop-derivative.nodes c.loop-derivative.invariant.grows p.conds.items p.sides c.requires.goal.conditions
    c.requires.goal.there in
    c.above-fresh.ensures.exact (sorted (variables_of g)) (rw c.as_slice.ensures.value c.requires.goal.variables) ∙ fresh_above g ∙ ap fresh_in (sym same)

pub returns-in_err-push_back-in-Ok-clause-grows : goal.returns-in_err-push_back-in-Ok-clause-grows
returns-in_err-push_back-in-Ok-clause-grows c =
    grows_more c.args.nodes.now c.loop-derivative.nodes c.derivative_on.new.nodes c.loop-derivative.invariant.grows c.derivative_on.ensures.grows

pub returns-in-Err-clause-grows : goal.returns-in-Err-clause-grows
returns-in-Err-clause-grows c =
    grows_more c.args.nodes.now c.loop-derivative.nodes c.derivative_on.new.nodes c.loop-derivative.invariant.grows c.derivative_on.ensures.grows

pub returns-in-Err-clause-exact : goal.returns-in-Err-clause-exact
returns-in-Err-clause-exact c =
    let th = c.args.self.now.theory.now in
    let ds = th.derivatives in
    let at = c.loop-derivative in
    let p = c.args.goal.now in
    let g = goal_at c.args.nodes.now p in
    let i = at.derivative in
    let same = goal_stays c.args.nodes.now at.nodes at.invariant.grows p.conds.items p.sides c.requires.goal.conditions c.requires.goal.there in
    let within : i < length ds = omega (arith, c.loop-derivative-test.true, c.derivative_count-derivative-end.ensures.count) in
    let takes : option_map_or (λ d. d.hole == sort_of g.left) (slice_get ds i) false ≡ true = rw c.sort-sort.ensures at (sym c.takes.ensures ∙ c.if-takes.true) in
    let Q : Goal → Type 0 = λ x. IfSome (slice_get ds i) (λ d. MakesDerivativeAt c.derivative_on.new.nodes x d (Err c.in-Err.fault)) in
    stands_stopped th g i (shared_goals at.nodes at.derived.items) c.in-Err.fault within takes (subst Q same (rw c.in-Err.is at c.derivative_on.ensures.exact))
    at.invariant.stands.so_far

pub loop-derivative-preserved : goal.loop-derivative-preserved
loop-derivative-preserved c =
    let th = c.args.self.now.theory.now in
    let ds = th.derivatives in
    let at = c.loop-derivative in
    let p = c.args.goal.now in
    let g = goal_at c.args.nodes.now p in
    let i = at.derivative in
    let same = goal_stays c.args.nodes.now at.nodes at.invariant.grows p.conds.items p.sides c.requires.goal.conditions c.requires.goal.there in
    let within : i < length ds = omega (arith, c.loop-derivative-test.true, c.derivative_count-derivative-end.ensures.count) in
    elim c.if-takes.branch [
      | then-takes+in-Ok+in_ok-push_back-in-Ok w ↦
          let takes : option_map_or (λ d. d.hole == sort_of g.left) (slice_get ds i) false ≡ true = rw c.sort-sort.ensures at (sym c.takes.ensures ∙ w.if-takes.true) in
          let Q : Goal → Type 0 = λ x. IfSome (slice_get ds i) (λ d. MakesDerivativeAt w.derivative_on.new.nodes x d (Ok w.in-Ok.goal)) in
          rw (w.derived-is, w.nodes-is) (record {
            grows = grows_more c.args.nodes.now at.nodes w.derivative_on.new.nodes at.invariant.grows w.derivative_on.ensures.grows;
            stands =
                stands_next th g at.nodes w.derivative_on.new.nodes w.derivative_on.ensures.grows i at.derived.items _ w.in-Ok.goal within takes
                (subst Q same (rw w.in-Ok.is at w.derivative_on.ensures.exact)) w.in_ok-push_back-in-Ok.ensures.items at.invariant.stands;
          })
      | else-takes w ↦
          let takes : option_map_or (λ d. d.hole == sort_of g.left) (slice_get ds i) false ≡ false = rw c.sort-sort.ensures at (sym c.takes.ensures ∙ w.if-takes.false) in
          rw (w.derived-is, w.nodes-is) (record { grows = at.invariant.grows; stands = stands_over th g at.nodes i at.derived.items within takes at.invariant.stands })
    ]

pub returns-clause-grows : goal.returns-clause-grows
returns-clause-grows c = c.loop-derivative.invariant.grows

pub returns-clause-exact : goal.returns-clause-exact
returns-clause-exact c =
    let at = c.loop-derivative in
    stands_all c.args.self.now.theory.now (goal_at c.args.nodes.now c.args.goal.now) at.nodes at.derivative at.derived.items
    (omega (arith, c.loop-derivative-test.false, c.derivative_count-derivative-end.ensures.count)) at.invariant.stands
