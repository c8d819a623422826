use Rattle.std.proofs.Common.{◌≡◌, map, drop}
use Rattle.circ_pairs.specs.Pairs.{plain_pair}
use Rattle.circ_theory.specs.Adding.{hidden_condition}
use Rattle.circ_theory.proofs.theories.Theory.hidden_condition.Given as goal

abbrev pub invariant-loop-pair : goal.invariant-loop-pair
invariant-loop-pair l = hidden_condition l.self (map plain_pair (drop l.pair-index l.conds)) ≡ hidden_condition l.self (map plain_pair l.conds)
