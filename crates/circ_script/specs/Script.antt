-- What a script asks for, as contracts see it.
use Rattle.std.specs.Prelude.{List, map}
use Rattle.circ_term.specs.Tree.{Tree}
use Rattle.circ_theory.specs.Goal.{Goal}
use Rattle.circ_script.specs.declared.script.Script as made

-- blocks of goals, which are proved one after another, and terms, which are reduced
pub record Script : Type 0 where
  pub blocks : List (List Goal)
  pub terms : List Tree

abbrev pub plain_script : made.Script → Script
plain_script s = record { blocks = map (λ b. b.items) s.blocks.items; terms = s.terms.items }
