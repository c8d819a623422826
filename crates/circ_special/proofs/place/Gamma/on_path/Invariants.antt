use Rattle.std.proofs.Common.{◌↔◌, drop}
use Rattle.circ_special.specs.Special.{IsSpecial}
use Rattle.circ_special.proofs.place.Gamma.on_path.Given as goal

abbrev pub invariant-loop-place : goal.invariant-loop-place
invariant-loop-place l = IsSpecial l.self l.here (drop l.place-index l.path) ↔ IsSpecial l.self l.term l.path
