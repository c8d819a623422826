-- The theory LANG of languages over two letters, part by part as the library's text has it.
use Rattle.std.specs.Prelude.{ℕ, List, [], ◌∷◌, ◌++◌, Bool, true, false, codes, map}
use Rattle.circ_term.specs.Tree.{Tree, Var, App, none, more}
use Rattle.circ_form.specs.declared.forms.Piece.TheVariants.{Hole, Word}
use Rattle.circ_theory.specs.declared.parts.Side.{Side}
use Rattle.circ_theory.specs.declared.parts.Side.TheVariants.{Neither, Right}
use Rattle.circ_theory.specs.Goal.{Equation}
use Rattle.circ_theory.specs.Signature.{Operator}
use Rattle.circ_theory.specs.Theory.{Theory, Derivative, CaseList, declared}

-- the operators, in order
pub data LangOp : Type 0 where
  op_zero : LangOp
  op_one : LangOp
  op_or : LangOp
  op_and : LangOp
  op_acc : LangOp
  op_da : LangOp
  op_db : LangOp
  op_empty : LangOp
  op_eps : LangOp
  op_a : LangOp
  op_b : LangOp
  op_star : LangOp
  op_product : LangOp
  op_sum : LangOp
  op_when : LangOp

abbrev pub lang_ops : List LangOp
lang_ops =
    op_zero ∷ op_one ∷ op_or ∷ op_and ∷ op_acc ∷ op_da ∷ op_db ∷ op_empty ∷ op_eps ∷ op_a ∷ op_b ∷ op_star ∷ op_product ∷ op_sum ∷ op_when ∷ []

-- the sorts Bit and Lang
abbrev pub bit_sort : ℕ
bit_sort = 0

abbrev pub lang_sort : ℕ
lang_sort = 1

-- an operator without holes
abbrev pub named_op : (word args : List ℕ) (result : ℕ) → Operator
named_op word args result = record {
  form = Word word ∷ [];
  args = args;
  result = result;
  prec = 0;
  side = Neither;
  assoc = false;
  comm = false;
  idem = false;
}

-- an operator between its two arguments, which have the sort of its result
abbrev pub infix_op : (word : List ℕ) (sort prec : ℕ) → Side → (marked : Bool) → Operator
infix_op word sort prec side marked = record {
  form = Hole ∷ Word word ∷ Hole ∷ [];
  args = sort ∷ sort ∷ [];
  result = sort;
  prec = prec;
  side = side;
  assoc = marked;
  comm = marked;
  idem = marked;
}

-- an operator behind its argument, which has the sort of its result
abbrev pub postfix_op : (word : List ℕ) (sort prec : ℕ) → Operator
postfix_op word sort prec = record {
  form = Hole ∷ Word word ∷ [];
  args = sort ∷ [];
  result = sort;
  prec = prec;
  side = Neither;
  assoc = false;
  comm = false;
  idem = false;
}

abbrev pub lang_operator : LangOp → Operator
lang_operator op_zero = named_op (codes "0") [] bit_sort
lang_operator op_one = named_op (codes "1") [] bit_sort
lang_operator op_or = infix_op (codes "or") bit_sort 43 Neither false
lang_operator op_and = infix_op (codes "and") bit_sort 42 Neither false
lang_operator op_acc = named_op (codes "acc") (lang_sort ∷ []) bit_sort
lang_operator op_da = named_op (codes "da") (lang_sort ∷ []) lang_sort
lang_operator op_db = named_op (codes "db") (lang_sort ∷ []) lang_sort
lang_operator op_empty = named_op (codes "empty") [] lang_sort
lang_operator op_eps = named_op (codes "eps") [] lang_sort
lang_operator op_a = named_op (codes "a") [] lang_sort
lang_operator op_b = named_op (codes "b") [] lang_sort
lang_operator op_star = postfix_op (codes "*") lang_sort 31
lang_operator op_product = infix_op (codes ";") lang_sort 33 Right false
lang_operator op_sum = infix_op (codes "+") lang_sort 35 Right true
lang_operator op_when = named_op (codes "when") (bit_sort ∷ lang_sort ∷ []) lang_sort

-- the operator of this number on no term, on one and on two
abbrev pub on_none : (op sort : ℕ) → Tree
on_none f s = App f s none

abbrev pub on_term : (op sort : ℕ) → Tree → Tree
on_term f s t = App f s (more t none)

abbrev pub on_terms : (op sort : ℕ) → Tree → Tree → Tree
on_terms f s t u = App f s (more t (more u none))

abbrev pub zero_term : Tree
zero_term = on_none 0 bit_sort

abbrev pub one_term : Tree
one_term = on_none 1 bit_sort

abbrev pub or_term : Tree → Tree → Tree
or_term x y = on_terms 2 bit_sort x y

abbrev pub and_term : Tree → Tree → Tree
and_term x y = on_terms 3 bit_sort x y

abbrev pub acc_term : Tree → Tree
acc_term t = on_term 4 bit_sort t

abbrev pub da_term : Tree → Tree
da_term t = on_term 5 lang_sort t

abbrev pub db_term : Tree → Tree
db_term t = on_term 6 lang_sort t

abbrev pub empty_term : Tree
empty_term = on_none 7 lang_sort

abbrev pub eps_term : Tree
eps_term = on_none 8 lang_sort

abbrev pub a_term : Tree
a_term = on_none 9 lang_sort

abbrev pub b_term : Tree
b_term = on_none 10 lang_sort

abbrev pub star_term : Tree → Tree
star_term t = on_term 11 lang_sort t

abbrev pub product_term : Tree → Tree → Tree
product_term t u = on_terms 12 lang_sort t u

abbrev pub sum_term : Tree → Tree → Tree
sum_term t u = on_terms 13 lang_sort t u

abbrev pub when_term : Tree → Tree → Tree
when_term x t = on_terms 14 lang_sort x t

-- The variables of an equation are numbered by their first occurrence.
abbrev pub bit_var : ℕ → Tree
bit_var n = Var n bit_sort

abbrev pub lang_var : ℕ → Tree
lang_var n = Var n lang_sort

-- an equation without conditions that is a rule
abbrev pub rule_with : Tree → Tree → Equation
rule_with s t = record { left = s; right = t; conds = []; exec = true }

abbrev pub bit_equations : List Equation
bit_equations = rule_with (or_term zero_term (bit_var 0)) (bit_var 0)
    ∷ rule_with (or_term one_term (bit_var 0)) one_term
    ∷ rule_with (or_term (bit_var 0) zero_term) (bit_var 0)
    ∷ rule_with (or_term (bit_var 0) one_term) one_term
    ∷ rule_with (and_term zero_term (bit_var 0)) zero_term
    ∷ rule_with (and_term one_term (bit_var 0)) (bit_var 0)
    ∷ rule_with (and_term (bit_var 0) zero_term) zero_term
    ∷ rule_with (and_term (bit_var 0) one_term) (bit_var 0)
    ∷ []

abbrev pub unit_equations : List Equation
unit_equations = rule_with (sum_term empty_term (lang_var 0)) (lang_var 0)
    ∷ rule_with (sum_term (lang_var 0) empty_term) (lang_var 0)
    ∷ rule_with (product_term empty_term (lang_var 0)) empty_term
    ∷ rule_with (product_term (lang_var 0) empty_term) empty_term
    ∷ rule_with (product_term eps_term (lang_var 0)) (lang_var 0)
    ∷ rule_with (product_term (lang_var 0) eps_term) (lang_var 0)
    ∷ rule_with (when_term zero_term (lang_var 0)) empty_term
    ∷ rule_with (when_term one_term (lang_var 0)) (lang_var 0)
    ∷ []

abbrev pub acc_equations : List Equation
acc_equations = rule_with (acc_term empty_term) zero_term
    ∷ rule_with (acc_term eps_term) one_term
    ∷ rule_with (acc_term a_term) zero_term
    ∷ rule_with (acc_term b_term) zero_term
    ∷ rule_with (acc_term (sum_term (lang_var 0) (lang_var 1))) (or_term (acc_term (lang_var 0)) (acc_term (lang_var 1)))
    ∷ rule_with (acc_term (product_term (lang_var 0) (lang_var 1))) (and_term (acc_term (lang_var 0)) (acc_term (lang_var 1)))
    ∷ rule_with (acc_term (star_term (lang_var 0))) one_term
    ∷ rule_with (acc_term (when_term (bit_var 0) (lang_var 1))) (and_term (bit_var 0) (acc_term (lang_var 1)))
    ∷ []

-- what stands behind a letter: d is da or db, and of_a and of_b are d on a and on b
abbrev pub letter_equations : (d : Tree → Tree) (of_a of_b : Tree) → List Equation
letter_equations d of_a of_b = rule_with (d empty_term) empty_term
    ∷ rule_with (d eps_term) empty_term
    ∷ rule_with (d a_term) of_a
    ∷ rule_with (d b_term) of_b
    ∷ rule_with (d (sum_term (lang_var 0) (lang_var 1))) (sum_term (d (lang_var 0)) (d (lang_var 1)))
    ∷ rule_with (d (product_term (lang_var 0) (lang_var 1)))
    (sum_term (product_term (d (lang_var 0)) (lang_var 1)) (when_term (acc_term (lang_var 0)) (d (lang_var 1))))
    ∷ rule_with (d (star_term (lang_var 0))) (product_term (d (lang_var 0)) (star_term (lang_var 0)))
    ∷ rule_with (d (when_term (bit_var 0) (lang_var 1))) (when_term (bit_var 0) (d (lang_var 1)))
    ∷ []

abbrev pub da_equations : List Equation
da_equations = letter_equations da_term eps_term empty_term

abbrev pub db_equations : List Equation
db_equations = letter_equations db_term empty_term eps_term

abbrev pub lang_equations : List Equation
lang_equations = bit_equations ++ unit_equations ++ acc_equations ++ da_equations ++ db_equations

abbrev pub derivative_on : (Tree → Tree) → Derivative
derivative_on d = record { hole = lang_sort; body = d (lang_var 0) }

abbrev pub bit_cases : CaseList
bit_cases = record { sort = bit_sort; constants = 0 ∷ 1 ∷ [] }

-- the theory of the library's text LANG
unfoldable pub LANG : Theory
LANG = record {
  name = codes "LANG";
  signature = record { sorts = codes "Bit" ∷ codes "Lang" ∷ []; ops = map lang_operator lang_ops };
  variables = declared (codes "X") bit_sort ∷ declared (codes "R") lang_sort ∷ declared (codes "S") lang_sort ∷ [];
  equations = lang_equations;
  derivatives = derivative_on acc_term ∷ derivative_on da_term ∷ derivative_on db_term ∷ [];
  cases = bit_cases ∷ [];
}
