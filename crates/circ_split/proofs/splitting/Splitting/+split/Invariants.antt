use Rattle.std.proofs.Common.{◌≡◌, ◌+◌, ◌*◌, ◌≤◌, drop, map}
use Rattle.circ_theory.specs.Pairs.{plain_pair}
use Rattle.circ_conditional_search.specs.Search.{each_case_trying, split_cases_trying}
use Rattle.circ_split.proofs.Splits.{Rest}
use Rattle.circ_split.proofs.splitting.Splitting.+split.Given as goal

abbrev pub decreases-split_with : goal.decreases-split_with
decreases-split_with l = 5 * l.room

abbrev pub decreases-each_case : goal.decreases-each_case
decreases-each_case l = 5 * l.room + 4

abbrev pub decreases-one_case : goal.decreases-one_case
decreases-one_case l = 5 * l.room + 3

abbrev pub decreases-case_reason : goal.decreases-case_reason
decreases-case_reason l = 5 * l.room + 2

abbrev pub decreases-sides_reason : goal.decreases-sides_reason
decreases-sides_reason l = 5 * l.room + 1

abbrev pub invariant-each_case-loop-i : goal.invariant-each_case-loop-i
invariant-each_case-loop-i l = record {
  theory : l.reducer.theory ≡ l.fn.reducer.theory;
  rules : l.reducer.rules ≡ l.fn.reducer.rules;
  less : l.budget ≤ l.fn.budget;
  same : l.assumptions.items ≡ l.fn.assumptions.items;
  rest : Rest
      (each_case_trying l.self.theory.now l.fn.reducer.rules (split_cases_trying l.self.theory.now l.fn.reducer.rules l.room) (map plain_pair l.fn.assumptions.items) l.split.term.now l.split.left.now l.split.right.now l.constants l.fn.budget)
      (each_case_trying l.self.theory.now l.fn.reducer.rules (split_cases_trying l.self.theory.now l.fn.reducer.rules l.room) (map plain_pair l.fn.assumptions.items) l.split.term.now l.split.left.now l.split.right.now (drop l.i l.constants) l.budget)
      l.whys.items;
}
