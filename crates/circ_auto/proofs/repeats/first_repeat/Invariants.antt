use Rattle.std.proofs.Common.{◌≡◌, [], drop, map}
use Rattle.circ_auto.specs.Parts.{repeat_after}
use Rattle.circ_auto.proofs.repeats.first_repeat.Given as goal

abbrev pub invariant-loop-word : goal.invariant-loop-word
invariant-loop-word l =
    repeat_after (map (λ w. w.now) l.before.keys) (map (λ w. w.now) (drop l.word-index l.words)) ≡ repeat_after [] (map (λ w. w.now) l.words)
