-- Entries of experiments as text.
use Rattle.std.specs.Prelude.{ℕ, List, true}
use Rattle.circ_term.specs.Tree.{Tree, Var}
use Rattle.circ_theory.specs.Theory.{Theory, Derivative}
use Rattle.circ_theory.specs.Experiment.{derived}
use Rattle.circ_theory.specs.Fresh.{given_parameters}
use Rattle.circ_entry.specs.Entries.{Written, derivative_at, IsEntryFor}
use Rattle.circ_mixfix.specs.Printing.{text_of_term}

-- the derivative with its hole as it stands, and the entry's terms for its parameters
abbrev pub entry_term : Theory → Written → Tree
entry_term th w = derived (derivative_at th w.derivative) (Var 0 (derivative_at th w.derivative).hole) (given_parameters w.parameters)

-- the text of that term, in which variable 0 is the hole
abbrev pub text_of_entry : Theory → Written → List ℕ
text_of_entry th w = text_of_term th.signature true (entry_term th w)

-- the entry is one for some sort
abbrev pub IsEntry : Theory → Written → Type 0
IsEntry th w = (sort : ℕ) × (d : Derivative) × IsEntryFor th w sort d
