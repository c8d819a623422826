use Rattle.std.proofs.Common.{◌≡◌, ◌++◌, codes, map, drop}
use Rattle.circ_theory.specs.Pairs.{plain_pair}
use Rattle.circ_mixfix.specs.Printing.{further, text_of_pair}
use Rattle.circ_mixfix.proofs.printing.put_further_conditions.Given as goal

abbrev pub invariant-loop-cond : goal.invariant-loop-cond
invariant-loop-cond l =
    l.out.items ++ further (codes " /\\ ") (map (text_of_pair l.theory.signature) (map plain_pair (drop l.cond-index l.conds)))
    ≡ l.initial.out.items ++ further (codes " /\\ ") (map (text_of_pair l.theory.signature) (map plain_pair l.conds))
