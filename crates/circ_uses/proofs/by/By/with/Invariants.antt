use Rattle.std.proofs.Common.{◌≡◌, drop}
use Rattle.circ_uses.specs.Valuations.{valued_by, with_overs}
use Rattle.circ_uses.proofs.by.By.with.Given as goal

abbrev pub invariant-loop-old : goal.invariant-loop-old
invariant-loop-old l =
    with_overs (with_overs (valued_by l.self.base.value) l.overs.items) (drop l.old-index l.olds) ≡ with_overs (valued_by l.self.base.value) l.olds
