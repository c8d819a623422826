use Rattle.std.proofs.Common.{◌≤◌, ◌-◌, drop, length}
use Rattle.circ_mixfix.specs.Answers.{lists_in}
use Rattle.circ_mixfix.specs.Choices.{HaveChosen}
use Rattle.circ_mixfix.specs.Variables.{vars_in}
use Rattle.circ_mixfix.proofs.parse.read_pairs.Given as goal

abbrev pub invariant-loop-at : goal.invariant-loop-at
invariant-loop-at l = record {
  within : l.at ≤ length l.spans;
  chosen : HaveChosen l.scope.theory.now.signature (vars_in l.scope) (lists_in l.tokens l.spans) (drop l.at (lists_in l.tokens l.spans)) l.choices;
}

abbrev pub decreases-loop-at : goal.decreases-loop-at
decreases-loop-at l = length l.spans - l.at
