use Rattle.std.proofs.Common.{◌≡◌, ◌++◌, length, map}
use Rattle.std.specs.Option.{option_map}
use Rattle.circ_auto.specs.Reading.{names_in}
use Rattle.circ_auto.proofs.numbers.names_in.Given as goal

abbrev pub invariant-loop-word : goal.invariant-loop-word
invariant-loop-word l = option_map (λ r. (map (λ w. w.now) l.names.items ++ r.0, r.1)) (names_in l.left) ≡ names_in l.fn.words

abbrev pub decreases-loop-word : goal.decreases-loop-word
decreases-loop-word l = length l.left
