use Rattle.std.proofs.Common.{◌≡◌, length, None}
use Rattle.circ_term.specs.Tree.{trees_of}
use Rattle.circ_term.specs.Limits.{first_limits}
use Rattle.circ_aci.specs.Canonical.{join}
use Rattle.circ_aci.proofs.Joined.{folded}
use Rattle.circ_moves.proofs.row.joined.Given as goal

abbrev pub invariant-loop-part : goal.invariant-loop-part
invariant-loop-part l = record {
  within : first_limits (trees_of l.parts.items) ≡ None;
  same : folded l.op l.sort l.parts.items l.joined ≡ join l.op l.sort l.fn.parts.items;
}

abbrev pub decreases-loop-part : goal.decreases-loop-part
decreases-loop-part l = length l.parts.items
