-- Terms as they are printed.
use Rattle.std.specs.Prelude.{ℕ, List, [], ◌∷◌, ◌++◌, Bool, false, Option, Some, None, codes, decimal, map, unwrap_or, ◌==◌, ◌&&◌, if◌then◌else◌}
use Rattle.std.specs.List.{slice_get}
use Rattle.circ_term.specs.Tree.{Tree, Trees, Var, App, none, more}
use Rattle.circ_theory.specs.Signature.{Signature, Operator}
use Rattle.circ_theory.specs.Goal.{Goal}
use Rattle.circ_theory.specs.Theory.{Pair, sides}
use Rattle.circ_form.specs.Form.{has_hole}
use Rattle.circ_form.specs.declared.forms.Piece.{Piece}
use Rattle.circ_form.specs.declared.forms.Piece.TheVariants.{Hole, Word}

-- texts behind a first one, each after a separator
abbrev pub further : List ℕ → List (List ℕ) → List ℕ
further sep [] = []
further sep (x ∷ xs) = sep ++ x ++ further sep xs

-- texts with a separator between them
abbrev pub joined : List ℕ → List (List ℕ) → List ℕ
joined sep [] = []
joined sep (x ∷ xs) = x ++ further sep xs

-- a piece's text: that of a hole is the next argument's
abbrev pub piece_text : Piece → List (List ℕ) → List ℕ
piece_text (Word w) args = w
piece_text Hole [] = []
piece_text Hole (a ∷ args) = a

-- the arguments that are left behind a piece
abbrev pub left_behind : Piece → List (List ℕ) → List (List ℕ)
left_behind (Word w) args = args
left_behind Hole [] = []
left_behind Hole (a ∷ args) = args

-- the texts of the pieces, with the arguments in the holes
abbrev pub filled : List Piece → List (List ℕ) → List (List ℕ)
filled [] args = []
filled (p ∷ ps) args = piece_text p args ∷ filled ps (left_behind p args)

-- the arguments in parentheses, if there are any
abbrev pub arguments_text : List (List ℕ) → List ℕ
arguments_text [] = []
arguments_text (a ∷ args) = codes "(" ++ joined (codes ", ") (a ∷ args) ++ codes ")"

-- An operator with holes is in parentheses, with its arguments in the holes. One without is its words, and its arguments in parentheses.
abbrev pub application_text : Operator → List (List ℕ) → List ℕ
application_text o args =
    if has_hole o.form then codes "(" ++ joined (codes " ") (filled o.form args) ++ codes ")" else joined (codes " ") (filled o.form []) ++ arguments_text args

abbrev pub operator_text : Option Operator → List (List ℕ) → List ℕ
operator_text None args = []
operator_text (Some o) args = application_text o args

-- the name of a variable; where there is a hole, it is variable 0
abbrev pub printed_name : Bool → ℕ → List ℕ
printed_name hole n = if hole && (n == 0) then codes "*" else codes "V" ++ decimal n

abbrev mutual
  pub text_of_term : Signature → Bool → Tree → List ℕ
  text_of_term sig hole (Var n s) = printed_name hole n ++ codes ":" ++ unwrap_or (slice_get sig.sorts s) []
  text_of_term sig hole (App f s ts) = operator_text (slice_get sig.ops f) (texts_of_terms sig hole ts)

  pub texts_of_terms : Signature → Bool → Trees → List (List ℕ)
  texts_of_terms sig hole none = []
  texts_of_terms sig hole (more t ts) = text_of_term sig hole t ∷ texts_of_terms sig hole ts

abbrev pub text_of_pair : Signature → Pair → List ℕ
text_of_pair sig p = text_of_term sig false p.left ++ codes " = " ++ text_of_term sig false p.right

-- a pair under conditions
abbrev pub text_under : Signature → Pair → (conds : List Pair) → List ℕ
text_under sig p [] = text_of_pair sig p
text_under sig p (c ∷ cs) = text_of_pair sig p ++ codes " if " ++ joined (codes " /\\ ") (map (text_of_pair sig) (c ∷ cs))

abbrev pub text_of_goal : Signature → Goal → List ℕ
text_of_goal sig g = text_under sig (sides g) g.conds
