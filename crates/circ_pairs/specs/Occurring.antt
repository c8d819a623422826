-- The variables that were gathered, as the code keeps them.
use Rattle.circ_pairs.specs.declared.renumber.Occurring.{Occurring}
use Rattle.circ_pairs.specs.Variables.{Variable}

abbrev pub variable_of : Occurring → Variable
variable_of v = record { number = v.number; sort = v.sort }
