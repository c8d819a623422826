use Rattle.std.proofs.Common.{◌≡◌, take, map}
use Rattle.circ_auto.proofs.reader.copies.Given as goal

abbrev pub invariant-loop-text : goal.invariant-loop-text
invariant-loop-text l = map (λ w. w.items) l.copies.items ≡ map (λ w. w.now) (take l.text-index l.texts)
