use Rattle.std.proofs.Common.{◌≡◌, drop, length, replicate, false}
use Rattle.circ_auto.specs.Parts.{marked}
use Rattle.circ_auto.proofs.statements.marked.Given as goal

abbrev pub invariant-loop-state : goal.invariant-loop-state
invariant-loop-state l = record {
  same : marked l.marks.items (drop l.state-index l.listed) ≡ marked (replicate l.states false) l.listed;
  long : length l.marks.items ≡ l.states;
}
