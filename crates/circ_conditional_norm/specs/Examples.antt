-- Rules with conditions over the signature `sums` that try the definitions.
use Rattle.std.specs.Prelude.{ℕ, List, [], ◌∷◌}
use Rattle.circ_term.specs.Tree.{Tree}
use Rattle.circ_theory.specs.Theory.{Pair, pair_with}
use Rattle.circ_rewrite.specs.Examples.{a, b, f, g, x}
use Rattle.circ_rewrite.specs.declared.parts.Rule.{Rule}
use Rattle.circ_rewrite.specs.declared.parts.RuleName.TheVariants.{Equation}

abbrev pub f_if : (number : ℕ) (right : Tree) → List Pair → Rule
f_if number right conds = record { name = Equation number; left = f x; right = right; conds = conds }

-- f(x) = a if x = b, and f(x) = b if x = a
abbrev pub two_cases : List Rule
two_cases = f_if 10 a (pair_with x b ∷ []) ∷ f_if 11 b (pair_with x a ∷ []) ∷ []

-- g(x) = b, which has no conditions
abbrev pub g_is_b : Rule
g_is_b = record { name = Equation 12; left = g x; right = b; conds = [] }

-- f(x) = a if g(x) = b
abbrev pub by_g : Rule
by_g = f_if 13 a (pair_with (g x) b ∷ [])

-- f(x) = a if f(x) = b, whose condition asks for the rule again
abbrev pub by_itself : Rule
by_itself = f_if 14 a (pair_with (f x) b ∷ [])
