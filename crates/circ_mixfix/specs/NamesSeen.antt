-- Variables by their names, as the code keeps them.
use Rattle.std.specs.Prelude.{ℕ, List, map}
use Rattle.circ_term.specs.Tree.{Tree}
use Rattle.circ_mixfix.specs.Named.{NamedVariable, numbered, place_from}
use Rattle.circ_mixfix.specs.Coding.{named_by}
use Rattle.circ_mixfix.specs.declared.variable_names.VariableName.{VariableName}

abbrev pub named_of : VariableName → NamedVariable
named_of v = record { name = v.name.now; sort = v.sort }

-- terms of the chart, whose variables have the texts of their numbers as names, numbered by the places of the names
abbrev pub numbered_by : (texts : List (List ℕ)) → List NamedVariable → List Tree → List Tree
numbered_by ws vs ts = map (λ t. numbered (place_from 0 vs) (named_by ws t)) ts
