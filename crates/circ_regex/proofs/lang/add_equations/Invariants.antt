use Rattle.std.proofs.Common.{◌≡◌, List, reverse, length, Some}
use Rattle.circ_term.specs.Tree.{Tree}
use Rattle.circ_regex.specs.Making.{coded_terms, with_rules}
use Rattle.circ_regex.proofs.lang.add_equations.Given as goal

abbrev pub invariant-loop-left : goal.invariant-loop-left
invariant-loop-left l = (ts : List Tree) → coded_terms l.fn.rows l.fn.text ≡ Some ts → with_rules l.theory (reverse l.sides.items) ≡ with_rules l.fn.theory ts

abbrev pub decreases-loop-left : goal.decreases-loop-left
decreases-loop-left l = length l.sides.items
