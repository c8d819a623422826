use Rattle.std.proofs.Common.{◌*◌, ◌+◌, length}
use Rattle.circ_uses.proofs.uses.+add_places.Given as goal

abbrev pub decreases-add_places : goal.decreases-add_places
decreases-add_places l = 2 * length l.path.now

abbrev pub decreases-add_below : goal.decreases-add_below
decreases-add_below l = 2 * length l.path.now + 1
