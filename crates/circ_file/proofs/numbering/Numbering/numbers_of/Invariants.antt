use Rattle.std.proofs.Common.{◌≡◌, ◌++◌, drop, map, true, List}
use Rattle.std.specs.List.{AllByRecursion}
use Rattle.circ_term.specs.Tree.{Tree}
use Rattle.circ_proof.specs.Table.{has, number_in}
use Rattle.circ_file.specs.Numbering.{IsNumbering}
use Rattle.circ_file.proofs.numbering.Numbering.numbers_of.Given as goal

abbrev pub invariant-loop-term : goal.invariant-loop-term
invariant-loop-term l = (table : List Tree) → IsNumbering table l.self → AllByRecursion (λ t. has table t ≡ true) l.terms
    → l.numbers.items ++ map (number_in table) (drop l.term-index l.terms) ≡ map (number_in table) l.terms
