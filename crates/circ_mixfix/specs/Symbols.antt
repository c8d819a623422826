-- What spells an operator.
use Rattle.std.specs.Prelude.{ℕ, ◌+◌, List, [], ◌∷◌, ◌++◌, codes, if◌then◌else◌}
use Rattle.circ_form.specs.declared.forms.Piece.{Piece}
use Rattle.circ_form.specs.declared.forms.Piece.TheVariants as piece
use Rattle.circ_theory.specs.declared.parts.Side.{Side}
use Rattle.circ_theory.specs.declared.parts.Side.TheVariants.{Neither, Left, Right}
use Rattle.circ_theory.specs.Signature.{Operator}
use Rattle.circ_form.specs.Form.{has_hole}

-- a word, or a hole for a term of this sort and of a precedence below `below`
pub data Symbol : Type 0 where
  Word : (text : List ℕ) → Symbol
  Hole : (sort below : ℕ) → Symbol

-- each precedence is below this one
abbrev pub every : ℕ
every = 128

-- What a first hole takes: an operator to the right does not stand in it without parentheses.
abbrev pub below_first : ℕ → Side → ℕ
below_first p Neither = p + 1
below_first p Left = p + 1
below_first p Right = p

-- What a last hole takes: an operator to the left does not stand in it without parentheses.
abbrev pub below_last : ℕ → Side → ℕ
below_last p Neither = p + 1
below_last p Left = p
below_last p Right = p + 1

-- What the hole at the head of the pieces takes, where it is not the form's first piece: any term, if it is not the last either.
abbrev pub below_inner : ℕ → Side → List Piece → ℕ
below_inner p side [] = every
below_inner p side (q ∷ []) = below_last p side
below_inner p side (q ∷ r ∷ ps) = every

-- the symbols of pieces behind the first one, with the sorts of their holes
abbrev pub inner_symbols : ℕ → Side → List Piece → List ℕ → List Symbol
inner_symbols p side [] ss = []
inner_symbols p side (piece.Word w ∷ ps) ss = Word w ∷ inner_symbols p side ps ss
inner_symbols p side (piece.Hole ∷ ps) [] = []
inner_symbols p side (piece.Hole ∷ ps) (s ∷ ss) = Hole s (below_inner p side (piece.Hole ∷ ps)) ∷ inner_symbols p side ps ss

-- the symbols of all pieces
abbrev pub form_symbols : ℕ → Side → List Piece → List ℕ → List Symbol
form_symbols p side (piece.Hole ∷ ps) (s ∷ ss) = Hole s (below_first p side) ∷ inner_symbols p side ps ss
form_symbols p side ps ss = inner_symbols p side ps ss

-- arguments behind the first one, up to the closing parenthesis
abbrev pub more_arguments : List ℕ → List Symbol
more_arguments [] = Word (codes ")") ∷ []
more_arguments (s ∷ ss) = Word (codes ",") ∷ Hole s every ∷ more_arguments ss

-- arguments in parentheses; for none nothing
abbrev pub arguments : List ℕ → List Symbol
arguments [] = []
arguments (s ∷ ss) = Word (codes "(") ∷ Hole s every ∷ more_arguments ss

-- An operator with holes is spelled by its form, and one without by its words and its arguments in parentheses.
abbrev pub symbols_of : Operator → List Symbol
symbols_of o = if has_hole o.form then form_symbols o.prec o.side o.form o.args else inner_symbols 0 o.side o.form [] ++ arguments o.args

abbrev pub precedence_of : Operator → ℕ
precedence_of o = if has_hole o.form then o.prec else 0
