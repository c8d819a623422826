-- A signature whose terms are printed, to try the definitions.
use Rattle.std.specs.Prelude.{ℕ, [], ◌∷◌, false, codes}
use Rattle.circ_term.specs.Tree.{Tree, Var, App, none, more}
use Rattle.circ_form.specs.declared.forms.Piece.TheVariants.{Hole, Word}
use Rattle.circ_theory.specs.declared.parts.Side.TheVariants.{Neither, Left}
use Rattle.circ_theory.specs.Signature.{Signature, Operator}

-- _+_ of precedence 33, which groups to the left, over one sort
abbrev pub plus : Operator
plus = record { form = Hole ∷ Word (codes "+") ∷ Hole ∷ []; args = 0 ∷ 0 ∷ []; result = 0; prec = 33; side = Left; assoc = false; comm = false; idem = false }

-- f, a form without holes, with two arguments
abbrev pub call : Operator
call = record { form = Word (codes "f") ∷ []; args = 0 ∷ 0 ∷ []; result = 0; prec = 0; side = Neither; assoc = false; comm = false; idem = false }

abbrev pub sums : Signature
sums = record { sorts = codes "X" ∷ []; ops = plus ∷ call ∷ [] }

-- the operator on variables 0 and 1
abbrev pub on_two : ℕ → Tree
on_two f = App f 0 (more (Var 0 0) (more (Var 1 0) none))
