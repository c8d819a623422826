use Rattle.std.proofs.Common.{◌≤◌, length}
use Rattle.circ_contexts.specs.Candidates.{StandsAt, IsLast}
use Rattle.circ_contexts.proofs.candidates.Means.greatest.Given as goal

abbrev pub invariant-loop-before : goal.invariant-loop-before
invariant-loop-before l = record {
  stands : StandsAt l.self.theory.now l.self.budget l.left.items;
  done : l.before ≤ length l.left.items → IsLast l.self.theory.now l.self.budget l.left.items;
}

abbrev pub decreases-loop-before : goal.decreases-loop-before
decreases-loop-before l = l.before
