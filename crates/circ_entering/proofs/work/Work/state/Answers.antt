use Rattle.std.proofs.Common.{List, sym, subst}
use Rattle.std.specs.List.{AllByRecursion}
use Rattle.circ_steps.specs.States.{IsGoalThere}
use Rattle.circ_steps.specs.declared.states.SharedGoal.{SharedGoal}
use Rattle.circ_entering.proofs.Working.{both_parts}
use Rattle.circ_entering.proofs.work.Work.state.Goals as goal

pub build_goals-requires-clause-there : goal.build_goals-requires-clause-there
build_goals-requires-clause-there c =
    let w = c.args.self.now in
    let P : List SharedGoal → Type 0 = AllByRecursion (IsGoalThere w.nodes) in
    (both_parts (IsGoalThere w.nodes) c.as_slices.result.0.now c.as_slices.result.1.now (subst P (sym c.as_slices.ensures.items) c.requires.1.state.goals)).0

pub build_goals-requires-2-clause-there : goal.build_goals-requires-2-clause-there
build_goals-requires-2-clause-there c =
    let w = c.args.self.now in
    let P : List SharedGoal → Type 0 = AllByRecursion (IsGoalThere w.nodes) in
    (both_parts (IsGoalThere w.nodes) c.as_slices.result.0.now c.as_slices.result.1.now (subst P (sym c.as_slices.ensures.items) c.requires.1.state.goals)).1
