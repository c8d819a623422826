use Rattle.std.proofs.Common.{◌≡◌, drop}
use Rattle.std.specs.Prelude.{fold}
use Rattle.circ_table.specs.Lines.{plain}
use Rattle.circ_table.specs.Keys.{mixed, hash_of}
use Rattle.circ_table.proofs.keys.hash.Given as goal

abbrev pub invariant-loop-arg : goal.invariant-loop-arg
invariant-loop-arg l = fold mixed l.hash (drop l.arg-index l.arg-items) ≡ hash_of (plain l.fn.root)
