use Rattle.std.proofs.Common.{◌≡◌, length}
use Rattle.circ_regex.specs.Matches.{plain_regex, in_turn}
use Rattle.circ_regex.specs.Frames.{nested, plain_stack}
use Rattle.circ_regex.proofs.reader.nest_product.Given as goal

abbrev pub invariant-loop-first : goal.invariant-loop-first
invariant-loop-first l = nested in_turn (plain_regex l.whole) (plain_stack l.before.items) ≡ nested in_turn (plain_regex l.fn.last) (plain_stack l.fn.before.items)

abbrev pub decreases-loop-first : goal.decreases-loop-first
decreases-loop-first l = length l.before.items
