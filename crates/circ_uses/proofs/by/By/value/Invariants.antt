use Rattle.std.proofs.Common.{◌≡◌, ◌≤◌, take, length}
use Rattle.circ_uses.specs.Valuations.{by_of, valued_by, with_overs}
use Rattle.circ_uses.proofs.by.By.value.Given as goal

abbrev pub invariant-loop-left : goal.invariant-loop-left
invariant-loop-left l = record {
  within : l.left ≤ length l.self.overs.items;
  same : with_overs (valued_by l.self.base.value) (take l.left l.self.overs.items) l.number l.sort ≡ by_of l.self l.number l.sort;
}

abbrev pub decreases-loop-left : goal.decreases-loop-left
decreases-loop-left l = l.left
