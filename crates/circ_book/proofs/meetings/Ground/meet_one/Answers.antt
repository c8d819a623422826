use Rattle.std.proofs.Common.{sym, subst}
use Rattle.circ_proof.specs.Rules.{IsSortedState}
use Rattle.circ_book.proofs.meetings.Ground.meet_one.Goals as goal

pub apply-requires-clause-sorted : goal.apply-requires-clause-sorted
apply-requires-clause-sorted c = subst (IsSortedState c.args.self.now.theory.now) (sym c.in_ok-note_first.ensures.state) c.requires.state_sorted
