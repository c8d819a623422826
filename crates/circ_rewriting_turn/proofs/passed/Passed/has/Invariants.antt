use Rattle.std.proofs.Common.{◌≡◌, drop}
use Rattle.circ_attempt.specs.Attempt.{has_stood}
use Rattle.circ_rewriting_turn.specs.Passed.{plain_passed}
use Rattle.circ_rewriting_turn.proofs.passed.Passed.has.Given as goal

abbrev pub invariant-loop-sides : goal.invariant-loop-sides
invariant-loop-sides l = has_stood l.left l.right (plain_passed (drop l.sides-index l.sides-items)) ≡ has_stood l.left l.right l.self
