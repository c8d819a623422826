-- Contents and canonical forms that try the definitions.
use Rattle.std.specs.Prelude.{Bool, [], ◌∷◌}
use Rattle.circ_term.specs.Tree.{Tree, App, none}
use Rattle.circ_theory.specs.declared.parts.Side.TheVariants.{Neither}
use Rattle.circ_theory.specs.Signature.{Operator}
use Rattle.circ_theory.specs.Theory.{twice}

-- a binary operator with these marks
abbrev pub marked : (assoc comm idem : Bool) → Operator
marked assoc comm idem = record { form = []; args = 0 ∷ 0 ∷ []; result = 0; prec = 0; side = Neither; assoc = assoc; comm = comm; idem = idem }

-- two constants, of which a comes first
abbrev pub a : Tree
a = App 1 0 none

abbrev pub b : Tree
b = App 2 0 none

-- the operator, which has the number 9
abbrev pub f : Tree → Tree → Tree
f s t = twice 9 0 s t
