-- What terms of LANG mean: the words of a term of sort Lang, and the value of a term of sort Bit.
use Rattle.std.specs.Prelude.{◌≡◌, List, [], ◌∷◌, Bool, true, false, ◌&&◌, ◌||◌, Option, Some, None}
use Rattle.std.specs.List.{slice_get}
use Rattle.circ_term.specs.Tree.{Tree, Trees, Var, App, none, more}
use Rattle.circ_regex.specs.Matches.{Letter, a_letter, b_letter, Expression, no_word, empty_word, one_letter, either_of, in_turn, any_number}
use Rattle.circ_regex.specs.Languages.{Language, empty_language, empty_word_only, letter_only, concatenated, iterated}
use Rattle.circ_regex.specs.Lang.{LangOp, op_zero, op_one, op_or, op_and, op_acc, op_da, op_db}
use Rattle.circ_regex.specs.Lang.{op_empty, op_eps, op_a, op_b, op_star, op_product, op_sum, op_when, lang_ops}
use Rattle.circ_regex.specs.Lang.{empty_term, eps_term, a_term, b_term, star_term, product_term, sum_term}

-- What an operator makes of its arguments' languages. A bit is the language of all words where it is 1, and of none where it is 0.
abbrev pub operation : LangOp → Language → Language → Language
operation op_zero L M w = false
operation op_one L M w = true
operation op_or L M w = L [] || M []
operation op_and L M w = L [] && M []
operation op_acc L M w = L []
operation op_da L M w = L (a_letter ∷ w)
operation op_db L M w = L (b_letter ∷ w)
operation op_empty L M w = false
operation op_eps L M w = empty_word_only w
operation op_a L M w = letter_only a_letter w
operation op_b L M w = letter_only b_letter w
operation op_star L M w = iterated L w
operation op_product L M w = concatenated L M w
operation op_sum L M w = L w || M w
operation op_when L M w = L [] && M w

abbrev pub first_language : List Language → Language
first_language [] = empty_language
first_language (L ∷ Ls) = L

abbrev pub second_language : List Language → Language
second_language [] = empty_language
second_language (L ∷ Ls) = first_language Ls

abbrev pub applied_op : Option LangOp → List Language → Language
applied_op None Ls = empty_language
applied_op (Some y) Ls = operation y (first_language Ls) (second_language Ls)

-- the language of a term, where a variable counts as 0 or empty
abbrev mutual
  pub language_of : Tree → Language
  language_of (Var n s) = empty_language
  language_of (App f s ts) = applied_op (slice_get lang_ops f) (languages_of ts)

  pub languages_of : Trees → List Language
  languages_of none = []
  languages_of (more t ts) = language_of t ∷ languages_of ts

-- whether the term of sort Lang has the word
abbrev pub member : Tree → List Letter → Bool
member t w = language_of t w

abbrev pub HasWord : Tree → List Letter → Type 0
HasWord t w = member t w ≡ true

-- whether the term of sort Bit is 1
abbrev pub value : Tree → Bool
value t = language_of t []

abbrev pub letter_term : Letter → Tree
letter_term a_letter = a_term
letter_term b_letter = b_term

-- the term of an expression
abbrev pub expression_term : Expression → Tree
expression_term no_word = empty_term
expression_term empty_word = eps_term
expression_term (one_letter x) = letter_term x
expression_term (either_of e f) = sum_term (expression_term e) (expression_term f)
expression_term (in_turn e f) = product_term (expression_term e) (expression_term f)
expression_term (any_number e) = star_term (expression_term e)
