use Rattle.std.proofs.Common.{◌≡◌, ◌++◌, length}
use Rattle.std.specs.Option.{option_map}
use Rattle.circ_auto.specs.Reading.{numbers_in}
use Rattle.circ_auto.proofs.numbers.numbers_in.Given as goal

abbrev pub invariant-loop-word : goal.invariant-loop-word
invariant-loop-word l = option_map (λ r. (l.numbers.items ++ r.0, r.1)) (numbers_in l.left) ≡ numbers_in l.fn.words

abbrev pub decreases-loop-word : goal.decreases-loop-word
decreases-loop-word l = length l.left
