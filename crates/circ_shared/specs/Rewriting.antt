-- What the parts of a rewriting answer, by number.
use Rattle.std.specs.Prelude.{◌≡◌}
use Rattle.circ_theory.specs.declared.way.Way.{Way}
use Rattle.circ_theory.specs.declared.way.Way.TheVariants.{Forth, Back}
use Rattle.circ_shared.specs.declared.patterns.Sides.{Sides}
use Rattle.circ_shared.specs.declared.patterns.Turned.{Turned}

-- the side that is looked for, and the side that replaces it
abbrev pub IsTurned : Way → Sides → Turned → Type 0
IsTurned Forth s r = (r.from ≡ s.left) × (r.to ≡ s.right)
IsTurned Back s r = (r.from ≡ s.right) × (r.to ≡ s.left)
