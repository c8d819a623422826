-- A signature, rules and an assumption that try the definitions.
use Rattle.std.specs.Prelude.{ℕ, Bool, List, [], ◌∷◌, false, true}
use Rattle.circ_term.specs.Tree.{Tree, Var, App, none, more}
use Rattle.circ_theory.specs.Signature.{Signature, Operator}
use Rattle.circ_theory.specs.declared.parts.Side.TheVariants.{Neither}
use Rattle.circ_theory.specs.Theory.{Pair, pair_with}
use Rattle.circ_rewrite.specs.declared.parts.Rule.{Rule}
use Rattle.circ_rewrite.specs.declared.parts.RuleName.TheVariants.{Equation, Lemma}

abbrev pub operator : (args : List ℕ) (result : ℕ) → (assoc comm idem : Bool) → Operator
operator args result assoc comm idem =
    record { form = []; args = args; result = result; prec = 0; side = Neither; assoc = assoc; comm = comm; idem = idem }

-- operators 0 and 1 are constants, 2 is a sum, 3 and 4 take one argument, and 5 is idempotent alone
abbrev pub sums : Signature
sums = record {
  sorts = [] ∷ [];
  ops = operator [] 0 false false false ∷ operator [] 0 false false false ∷ operator (0 ∷ 0 ∷ []) 0 true true true
      ∷ operator (0 ∷ []) 0 false false false ∷ operator (0 ∷ []) 0 false false false ∷ operator (0 ∷ 0 ∷ []) 0 false false true ∷ [];
}

abbrev pub a : Tree
a = App 0 0 none

abbrev pub b : Tree
b = App 1 0 none

abbrev pub plus : Tree → Tree → Tree
plus s t = App 2 0 (more s (more t none))

abbrev pub f : Tree → Tree
f t = App 3 0 (more t none)

abbrev pub g : Tree → Tree
g t = App 4 0 (more t none)

abbrev pub h : Tree → Tree → Tree
h s t = App 5 0 (more s (more t none))

abbrev pub x : Tree
x = Var 0 0

-- f(x) = x
abbrev pub f_is : Rule
f_is = record { name = Equation 0; left = f x; right = x; conds = [] }

-- g(x) = g(x), which never ends
abbrev pub g_is : Rule
g_is = record { name = Equation 1; left = g x; right = g x; conds = [] }

-- x + x = b, which is never reached
abbrev pub sum_is : Rule
sum_is = record { name = Lemma 0; left = plus x x; right = b; conds = [] }

-- x + y = x
abbrev pub first_is : Rule
first_is = record { name = Equation 2; left = plus x (Var 1 0); right = x; conds = [] }

abbrev pub b_is : Pair
b_is = pair_with b (f a)

-- Languages over two letters, and whether they have the empty word: bits are 0 and 1, of sort 0, and languages are of sort 1. Of the
-- operators, 0 and 1 are the bits, 2 joins two of them, 3 asks for the empty word, 4 and 5 are the letters a and b, and 6 is the union.
abbrev pub languages : Signature
languages = record {
  sorts = [] ∷ [] ∷ [];
  ops = operator [] 0 false false false ∷ operator [] 0 false false false ∷ operator (0 ∷ 0 ∷ []) 0 false false false
      ∷ operator (1 ∷ []) 0 false false false ∷ operator [] 1 false false false ∷ operator [] 1 false false false
      ∷ operator (1 ∷ 1 ∷ []) 1 true true true ∷ [];
}

abbrev pub no : Tree
no = App 0 0 none

abbrev pub yes : Tree
yes = App 1 0 none

abbrev pub either : Tree → Tree → Tree
either s t = App 2 0 (more s (more t none))

abbrev pub acc : Tree → Tree
acc t = App 3 0 (more t none)

abbrev pub letter_a : Tree
letter_a = App 4 1 none

abbrev pub letter_b : Tree
letter_b = App 5 1 none

abbrev pub union : Tree → Tree → Tree
union s t = App 6 1 (more s (more t none))

-- 0 or X = X, acc(a) = 0, acc(b) = 0, acc(R + S) = acc(R) or acc(S)
abbrev pub empty_words : List Rule
empty_words =
    record { name = Equation 0; left = either no (Var 0 0); right = Var 0 0; conds = [] }
    ∷ record { name = Equation 18; left = acc letter_a; right = no; conds = [] }
    ∷ record { name = Equation 19; left = acc letter_b; right = no; conds = [] }
    ∷ record { name = Equation 20; left = acc (union (Var 0 1) (Var 1 1)); right = either (acc (Var 0 1)) (acc (Var 1 1)); conds = [] }
    ∷ []

abbrev pub b_has : Pair
b_has = pair_with (acc letter_b) yes
