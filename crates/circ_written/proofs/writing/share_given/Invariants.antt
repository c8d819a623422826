use Rattle.std.proofs.Common.{◌≡◌, ◌++◌, map, drop}
use Rattle.circ_written.specs.Rows.{given_bound}
use Rattle.circ_written.proofs.writing.share_given.Given as goal

abbrev pub invariant-loop-one : goal.invariant-loop-one
invariant-loop-one l = map given_bound l.copy.items ++ map given_bound (drop l.one-index l.given) ≡ map given_bound l.given
