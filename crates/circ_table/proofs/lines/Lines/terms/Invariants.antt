use Rattle.std.proofs.Common.{◌≡◌, take}
use Rattle.circ_table.specs.Lines.{trees}
use Rattle.circ_table.proofs.lines.Lines.terms.Given as goal

abbrev pub invariant-loop-place : goal.invariant-loop-place
invariant-loop-place l = l.terms.items ≡ take l.place (trees l.self)
