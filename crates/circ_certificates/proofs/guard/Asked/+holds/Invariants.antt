use Rattle.std.proofs.Common.{◌≡◌, ◌+◌, ◌*◌, true}
use Rattle.circ_certificates.specs.Visits.{AreCoveredVisits}
use Rattle.circ_certificates.proofs.Members.{above}
use Rattle.circ_certificates.proofs.Seeing.{FirstHold}
use Rattle.circ_certificates.proofs.guard.Asked.+holds.Given as goal

abbrev pub decreases-holds : goal.decreases-holds
decreases-holds l = 3 * l.visit.term + 2

abbrev pub decreases-holds_below : goal.decreases-holds_below
decreases-holds_below l = 3 * l.visit.now.term + 1

abbrev pub decreases-all_hold : goal.decreases-all_hold
decreases-all_hold l = 3 * above l.args.now

abbrev pub invariant-all_hold-loop-place : goal.invariant-all_hold-loop-place
invariant-all_hold-loop-place l = record {
  seen : AreCoveredVisits l.self l.seen.keys;
  first : FirstHold l.self (l.is_special ≡ true) l.op l.bodies l.args l.place;
}
