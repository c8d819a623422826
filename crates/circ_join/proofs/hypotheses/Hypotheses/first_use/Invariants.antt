use Rattle.std.proofs.Common.{◌≡◌, ◌≤◌, ◌-◌, ◌*◌, length}
use Rattle.circ_conditional_search.specs.Joining.{first_use_trying}
use Rattle.circ_join.specs.Trying.{normaliser_of}
use Rattle.circ_join.proofs.FirstUse.{uses_from}
use Rattle.circ_join.proofs.hypotheses.Hypotheses.first_use.Given as goal

abbrev pub invariant-loop-place : goal.invariant-loop-place
invariant-loop-place l = record {
  low : l.from ≤ 2 * length l.self.all;
  less : l.budget ≤ l.fn.budget;
  same : l.reducer ≡ l.fn.reducer;
  tried :
      first_use_trying (normaliser_of l.fn.reducer) 0 l.self.all l.path l.a l.b l.fn.budget
      ≡ uses_from (normaliser_of l.fn.reducer) l.path l.a l.b 0 l.self.all l.from l.budget;
}

abbrev pub decreases-loop-place : goal.decreases-loop-place
decreases-loop-place l = 2 * length l.self.all - l.from
