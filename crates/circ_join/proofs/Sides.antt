-- Both sides after a pass.
use Rattle.std.proofs.Common.{◌≡◌, ◌==◌, length, true, false, List, [], ◌∷◌, map, refl}
use Rattle.circ_plain_search.specs.Joining.{use_link}
use Rattle.circ_plain_search.specs.Search.{chain_with, has_links}
use Rattle.circ_join.specs.Uses.{plain_uses}
use Rattle.circ_join.specs.declared.uses.HypothesisUse.{HypothesisUse as TheUse}

-- a pass that replaces something on the left side replaces something
pub has_left_uses : (us vs : List TheUse) → (length us == 0) ≡ false → has_links (chain_with (map use_link (plain_uses us)) (map use_link (plain_uses vs))) ≡ true
has_left_uses [] vs e = absurd (cc)
has_left_uses (u ∷ us) vs e = refl
