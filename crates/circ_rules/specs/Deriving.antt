-- A start term that is built.
use Rattle.std.specs.Prelude.{◌≡◌}
use Rattle.circ_term.specs.Tree.{Tree}
use Rattle.circ_term.specs.Limits.{IsWithinLimits}

-- u is t, which is within the limits
pub record IsBuilt (t u : Tree) : Type 0 where
  pub within : IsWithinLimits t
  pub same : u ≡ t
