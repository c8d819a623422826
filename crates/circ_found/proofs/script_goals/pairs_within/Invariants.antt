use Rattle.std.proofs.Common.{drop, map}
use Rattle.std.specs.List.{AllByRecursion}
use Rattle.circ_theory.specs.Pairs.{plain_pair}
use Rattle.circ_conditional_search.specs.ConditionalSearch.{IsPairWithin}
use Rattle.circ_found.proofs.script_goals.pairs_within.Given as goal

abbrev pub invariant-loop-pair : goal.invariant-loop-pair
invariant-loop-pair l = AllByRecursion IsPairWithin (map plain_pair (drop l.pair-index l.pairs)) → AllByRecursion IsPairWithin (map plain_pair l.pairs)
