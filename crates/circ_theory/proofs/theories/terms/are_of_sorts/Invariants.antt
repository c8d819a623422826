use Rattle.std.proofs.Common.{◌≡◌, drop, map, nat_eq}
use Rattle.std.specs.Cmp.Lexicographic.{pointwise}
use Rattle.circ_term.specs.Tree.{sort_of}
use Rattle.circ_theory.proofs.theories.terms.are_of_sorts.Given as goal

abbrev pub invariant-loop-i : goal.invariant-loop-i
invariant-loop-i l = pointwise nat_eq (map sort_of (drop l.i l.terms)) (drop l.i l.sorts) ≡ pointwise nat_eq (map sort_of l.terms) l.sorts
