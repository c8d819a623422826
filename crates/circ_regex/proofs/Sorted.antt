-- The term of an expression is well-sorted in LANG.
use Rattle.std.specs.Prelude.{◌≡◌, refl}
use Rattle.circ_term.specs.Tree.{sort_of}
use Rattle.circ_theory.specs.Signature.{IsWellSorted}
use Rattle.circ_regex.specs.Matches.{Letter, a_letter, b_letter, Expression, no_word, empty_word, one_letter, either_of, in_turn, any_number}
use Rattle.circ_regex.specs.Lang.{op_empty, op_eps, op_a, op_b, op_star, op_product, op_sum, lang_operator, lang_sort, LANG}
use Rattle.circ_regex.specs.Member.{letter_term, expression_term}

letter_sort : (x : Letter) → sort_of (letter_term x) ≡ lang_sort
letter_sort a_letter = refl
letter_sort b_letter = refl

pub term_sort : (e : Expression) → sort_of (expression_term e) ≡ lang_sort
term_sort no_word = refl
term_sort empty_word = refl
term_sort (one_letter x) = letter_sort x
term_sort (either_of e f) = refl
term_sort (in_turn e f) = refl
term_sort (any_number e) = refl

letter_sorted : (x : Letter) → IsWellSorted LANG.signature (letter_term x)
unfolding LANG
letter_sorted a_letter = (lang_operator op_a, refl, refl, tt)
letter_sorted b_letter = (lang_operator op_b, refl, refl, tt)

pub term_sorted : (e : Expression) → IsWellSorted LANG.signature (expression_term e)
unfolding LANG
term_sorted no_word = (lang_operator op_empty, refl, refl, tt)
term_sorted empty_word = (lang_operator op_eps, refl, refl, tt)
term_sorted (one_letter x) = letter_sorted x
term_sorted (either_of e f) = (lang_operator op_sum, refl, refl, (term_sort e, term_sorted e, (term_sort f, term_sorted f, tt)))
term_sorted (in_turn e f) = (lang_operator op_product, refl, refl, (term_sort e, term_sorted e, (term_sort f, term_sorted f, tt)))
term_sorted (any_number e) = (lang_operator op_star, refl, refl, (term_sort e, term_sorted e, tt))
