use Rattle.std.proofs.Common.{◌≡◌, length, []}
use Rattle.circ_proof.specs.Plain.{plain_why}
use Rattle.circ_file.specs.Splits.{given, tops}
use Rattle.circ_file.proofs.splits.give.Given as goal

abbrev pub invariant-loop-split : goal.invariant-loop-split
invariant-loop-split l = given (tops l.splits.items []) (plain_why l.why) ≡ given (tops l.fn.splits.items []) (plain_why l.fn.why)

abbrev pub decreases-loop-split : goal.decreases-loop-split
decreases-loop-split l = length l.splits.items
