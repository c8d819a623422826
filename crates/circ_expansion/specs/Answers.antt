-- What is shown by a derivation that is written out.
use Rattle.std.specs.Prelude.{List, []}
use Rattle.circ_term.specs.Tree.{Tree}
use Rattle.circ_theory.specs.Theory.{Theory}
use Rattle.circ_theory.specs.Derivable.{Derivable}
use Rattle.circ_theory.specs.Experiment.{on}
use Rattle.circ_theory.specs.Goal.{Goal}
use Rattle.circ_entry.specs.Entries.{Written, written_entries}
use Rattle.circ_expansion.specs.Pieces.{Pieces, PiecesLead}

-- The pieces lead from s to t with no hypothesis and no assumption, and so t is derivable from s by the theory alone.
pub record LeadsAlone (th : Theory) (xs : Pieces) (s t : Tree) : Type 0 where
  pub lead : PiecesLead th [] xs s t
  pub derivable : Derivable th [] s t

-- .. from the one side of a goal to the other, in an experiment
abbrev pub LeadsOnGoal : Theory → Pieces → List Written → Goal → Type 0
LeadsOnGoal th xs ws g = LeadsAlone th xs (on (written_entries th ws) g.left) (on (written_entries th ws) g.right)
