use Rattle.std.proofs.Common.{◌≡◌, ◌+◌, ◌-◌, drop, length}
use Rattle.circ_content_join.specs.Apart.{apart, set_aside}
use Rattle.circ_aci.proofs.Settled.{Rises}
use Rattle.circ_moves.proofs.SetAside.{beside}
use Rattle.circ_moves.proofs.apart.set_apart.Given as goal

abbrev pub invariant-loop-i : goal.invariant-loop-i
invariant-loop-i l = record {
  left : Rises (drop l.i l.xs);
  right : Rises (drop l.j l.ys);
  walk : beside (apart l.both.items l.left.items l.right.items) (set_aside (drop l.i l.xs) (drop l.j l.ys)) ≡ set_aside l.xs l.ys;
}

abbrev pub decreases-loop-i : goal.decreases-loop-i
decreases-loop-i l = (length l.xs - l.i) + (length l.ys - l.j)
