use Rattle.std.proofs.Common.{◌≡◌, ◌++◌, drop}
use Rattle.circ_table.specs.Lines.{picked}
use Rattle.circ_table.proofs.lines.pick.Given as goal

abbrev pub invariant-loop-place : goal.invariant-loop-place
invariant-loop-place l = l.copy.items ++ picked l.terms (drop l.place-index l.places) ≡ picked l.terms l.places
