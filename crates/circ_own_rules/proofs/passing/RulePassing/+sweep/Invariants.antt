use Rattle.std.proofs.Common.{◌≡◌, ◌≤◌, ◌+◌, ◌*◌, ◌++◌}
use Rattle.circ_term.specs.Tree.{trees_of, depth_of, depths_of}
use Rattle.circ_join.specs.Sweeping.{plain_swept}
use Rattle.circ_join.specs.Trying.{normaliser_of}
use Rattle.circ_attempt.specs.Rules.{first_rule_use}
use Rattle.circ_own_rules.proofs.Sweeps.{row_at}
use Rattle.circ_own_rules.proofs.passing.RulePassing.+sweep.Given as goal

abbrev pub decreases-sweep : goal.decreases-sweep
decreases-sweep l = 3 * depth_of l.term.now

abbrev pub decreases-sweep_all : goal.decreases-sweep_all
decreases-sweep_all l = 3 * depths_of (trees_of l.args.now) + 2

abbrev pub decreases-sweep_at : goal.decreases-sweep_at
decreases-sweep_at l = 3 * depth_of l.arg.now + 1

abbrev pub invariant-sweep_all-loop-i : goal.invariant-sweep_all-loop-i
invariant-sweep_all-loop-i l =
    let first = first_rule_use (normaliser_of l.initial.reducer) (l.self.lemmas.now ++ l.self.own.now) in
    record {
      path : l.path.items ≡ l.initial.path.items;
      less : l.budget ≤ l.initial.budget;
      same : l.reducer ≡ l.initial.reducer;
      goes :
          row_at first l.self.gamma.now l.op l.initial.path.items l.args 0 (plain_swept l.initial.swept) l.initial.budget
          ≡ row_at first l.self.gamma.now l.op l.initial.path.items l.args l.i (plain_swept l.swept) l.budget;
    }
