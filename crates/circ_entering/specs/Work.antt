-- Hypotheses and goals by number, with what steps on them are judged by.
use Rattle.std.specs.Prelude.{List, map}
use Rattle.circ_term.specs.Tree.{Tree}
use Rattle.circ_theory.specs.Theory.{Theory}
use Rattle.circ_proof.specs.Rules.{State}
use Rattle.circ_nodes.specs.Named.{tree_at}
use Rattle.circ_nodes.specs.Built.{AreBuilt}
use Rattle.circ_steps.specs.States.{state_at, IsStateThere}
use Rattle.circ_entering.specs.declared.work.Work.{Work}
use Rattle.circ_entering.specs.Numbered.{AreEnteredRules}

-- the hypotheses and the goals with their terms
abbrev pub state_of : Work → State
state_of w = state_at w.nodes w.state

-- the terms that links name
abbrev pub table_of : Work → List Tree
table_of w = map (tree_at w.nodes) w.numbered.table.items

-- the rules are those of the theory, and all that has a number is there
pub record IsWork (th : Theory) (w : Work) : Type 0 where
  pub numbered : AreEnteredRules th (table_of w) w.nodes w.numbered
  pub state : IsStateThere w.nodes w.state
  pub built : AreBuilt w.nodes w.terms
