use Rattle.std.proofs.Common.{◌≡◌, ◌≤◌, ◌+◌, ℕ, unwrap_or, drop, map}
use Rattle.circ_term.specs.Subst.{found}
use Rattle.circ_theory.specs.Occurring.{variable_of}
use Rattle.circ_mixfix.specs.Numbering.{numbering, first_number}
use Rattle.circ_mixfix.proofs.numbering.numbering.Given as goal

abbrev pub invariant-loop-variable : goal.invariant-loop-variable
invariant-loop-variable l = record {
  bound : (n s : ℕ) → unwrap_or (found l.subst n s) (numbering l.hole l.next (map variable_of (drop l.variable-index l.variables)) n s) ≡ numbering l.hole (first_number l.hole) (map variable_of l.variables) n s;
  few : l.next ≤ l.variable-index + 1;
}
