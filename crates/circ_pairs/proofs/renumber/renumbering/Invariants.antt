use Rattle.std.proofs.Common.{◌≡◌, ℕ, unwrap_or, drop, map}
use Rattle.circ_term.specs.Subst.{found}
use Rattle.circ_pairs.specs.Renumbering.{renumbering}
use Rattle.circ_pairs.specs.Occurring.{variable_of}
use Rattle.circ_pairs.proofs.renumber.renumbering.Given as goal

abbrev pub invariant-loop-i : goal.invariant-loop-i
invariant-loop-i l =
    (n s : ℕ) → unwrap_or (found l.subst n s) (renumbering l.i (map variable_of (drop l.i l.variables)) n s) ≡ renumbering 0 (map variable_of l.variables) n s
