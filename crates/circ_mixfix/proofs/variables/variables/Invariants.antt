use Rattle.circ_mixfix.specs.Variables.{vars_in, HasVariables}
use Rattle.circ_mixfix.specs.WordLists.{GrowsTo}
use Rattle.circ_mixfix.proofs.variables.variables.Given as goal

abbrev pub invariant-loop-word : goal.invariant-loop-word
invariant-loop-word l = record {
  variables : HasVariables l.scope.theory.now.signature (vars_in l.scope) l.scope.hole l.words l.word l.out.items;
  grows : GrowsTo l.initial.words l.words l.word;
}
