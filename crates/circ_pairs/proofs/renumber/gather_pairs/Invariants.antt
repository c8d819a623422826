use Rattle.std.proofs.Common.{◌≡◌, map, drop}
use Rattle.circ_pairs.specs.Pairs.{plain_pair}
use Rattle.circ_pairs.specs.Occurring.{variable_of}
use Rattle.circ_pairs.specs.Variables.{seen_in_pairs}
use Rattle.circ_pairs.proofs.renumber.gather_pairs.Given as goal

abbrev pub invariant-loop-pair : goal.invariant-loop-pair
invariant-loop-pair l =
    seen_in_pairs (map plain_pair (drop l.pair-index l.pairs)) (map variable_of l.variables.keys) ≡ seen_in_pairs (map plain_pair l.pairs) (map variable_of l.initial.variables.keys)
