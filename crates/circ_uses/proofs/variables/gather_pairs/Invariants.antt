use Rattle.std.proofs.Common.{◌≡◌, map, drop}
use Rattle.circ_theory.specs.Pairs.{plain_pair}
use Rattle.circ_replay.specs.Gathering.{gathered_pairs}
use Rattle.circ_uses.specs.Valuations.{variable_of}
use Rattle.circ_uses.proofs.variables.gather_pairs.Given as goal

abbrev pub invariant-loop-pair : goal.invariant-loop-pair
invariant-loop-pair l =
    gathered_pairs (map plain_pair (drop l.pair-index l.pairs)) (map variable_of l.variables.keys)
    ≡ gathered_pairs (map plain_pair l.pairs) (map variable_of l.initial.variables.keys)
