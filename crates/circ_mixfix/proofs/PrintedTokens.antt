-- The tokens of printed terms.
use Rattle.std.proofs.Common.{ℕ, List, [], ◌∷◌, ◌++◌, Bool, Option, None, Some, codes}
use Rattle.std.specs.Prelude.{if◌then◌else◌}
use Rattle.std.specs.List.{slice_get}
use Rattle.circ_term.specs.Tree.{Tree, Trees, Var, App, none, more}
use Rattle.circ_form.specs.declared.forms.Piece.{Piece}
use Rattle.circ_form.specs.declared.forms.Piece.TheVariants.{Hole, Word}
use Rattle.circ_form.specs.Form.{has_hole}
use Rattle.circ_theory.specs.Signature.{Signature, Operator}
use Rattle.circ_mixfix.specs.Printing.{text_of_term}

-- the words of the pieces, with the arguments' tokens in the holes
abbrev pub fill : List Piece → List (List (List ℕ)) → List (List ℕ)
fill [] xs = []
fill (Word w ∷ ps) xs = w ∷ fill ps xs
fill (Hole ∷ ps) [] = fill ps []
fill (Hole ∷ ps) (x ∷ xs) = x ++ fill ps xs

-- arguments behind the first one, up to the closing parenthesis
abbrev pub more_tokens : List (List (List ℕ)) → List (List ℕ)
more_tokens [] = codes ")" ∷ []
more_tokens (x ∷ xs) = codes "," ∷ (x ++ more_tokens xs)

abbrev pub arguments_tokens : List (List (List ℕ)) → List (List ℕ)
arguments_tokens [] = []
arguments_tokens (x ∷ xs) = codes "(" ∷ (x ++ more_tokens xs)

abbrev pub application_tokens : Operator → List (List (List ℕ)) → List (List ℕ)
application_tokens o xs = if has_hole o.form then codes "(" ∷ (fill o.form xs ++ codes ")" ∷ []) else fill o.form [] ++ arguments_tokens xs

abbrev pub operator_tokens : Option Operator → List (List (List ℕ)) → List (List ℕ)
operator_tokens None xs = []
operator_tokens (Some o) xs = application_tokens o xs

abbrev mutual
  pub tokens_of_term : Signature → Bool → Tree → List (List ℕ)
  tokens_of_term sig hole (Var n s) = text_of_term sig hole (Var n s) ∷ []
  tokens_of_term sig hole (App f s ts) = operator_tokens (slice_get sig.ops f) (tokens_of_terms sig hole ts)

  pub tokens_of_terms : Signature → Bool → Trees → List (List (List ℕ))
  tokens_of_terms sig hole none = []
  tokens_of_terms sig hole (more t ts) = tokens_of_term sig hole t ∷ tokens_of_terms sig hole ts
