use Rattle.std.proofs.Common.{◌≡◌, ◌≤◌, drop, map}
use Rattle.circ_term.specs.Subst.{substitution_of}
use Rattle.circ_theory.specs.Pairs.{plain_pair}
use Rattle.circ_conditional_norm.specs.Tries.{conditions_hold}
use Rattle.circ_conditional_norm.specs.Work.{map_found}
use Rattle.circ_tries.specs.Trying.{passes_before}
use Rattle.circ_join.specs.Trying.{normaliser_of}
use Rattle.circ_join.proofs.conditions.all_hold.Given as goal

abbrev pub invariant-loop-cond : goal.invariant-loop-cond
invariant-loop-cond l = record {
  less : l.budget ≤ l.initial.budget;
  same : l.reducer ≡ l.initial.reducer;
  held :
      conditions_hold (normaliser_of l.initial.reducer) (substitution_of l.subst) (map plain_pair l.conds) l.initial.budget
      ≡ map_found (passes_before l.passes.items)
      (conditions_hold (normaliser_of l.initial.reducer) (substitution_of l.subst) (map plain_pair (drop l.cond-index l.conds)) l.budget);
}
