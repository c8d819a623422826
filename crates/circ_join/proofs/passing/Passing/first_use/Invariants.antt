use Rattle.std.proofs.Common.{◌≡◌, ◌≤◌, ◌-◌, drop, length}
use Rattle.circ_conditional_search.specs.Joining.{first_lemma_trying}
use Rattle.circ_join.specs.Trying.{normaliser_of}
use Rattle.circ_join.proofs.passing.Passing.first_use.Given as goal

abbrev pub invariant-loop-place : goal.invariant-loop-place
invariant-loop-place l = record {
  less : l.budget ≤ l.fn.budget;
  same : l.reducer ≡ l.fn.reducer;
  tried :
      first_lemma_trying (normaliser_of l.fn.reducer) l.self.lemmas.now l.path l.term l.fn.budget
      ≡ first_lemma_trying (normaliser_of l.fn.reducer) (drop l.from l.self.lemmas.now) l.path l.term l.budget;
}

abbrev pub decreases-loop-place : goal.decreases-loop-place
decreases-loop-place l = length l.self.lemmas.now - l.from
