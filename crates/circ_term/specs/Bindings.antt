-- How a substitution lies in memory: a map with the variable as its key.
use Rattle.circ_term.specs.Tree.{Tree}
use Rattle.circ_term.specs.Subst.{Bound}
use Rattle.circ_term.specs.declared.bindings.Variable.{Variable}

abbrev pub bound_of : Variable × Tree → Bound
bound_of e = record { number = e.0.number; sort = e.0.sort; term = e.1 }
