-- The rules and the lemmas of a block: the theory's rules, and the goals of earlier blocks.
use Rattle.std.specs.Prelude.{◌≡◌, ℕ, ◌+◌, Bool, not, ◌&&◌, if◌then◌else◌, List, [], ◌∷◌, ◌++◌, is_some}
use Rattle.std.specs.List.{AllByRecursion}
use Rattle.circ_term.specs.Tree.{sort_of, operator_number}
use Rattle.circ_theory.specs.Theory.{Theory}
use Rattle.circ_theory.specs.Rule.{is_bound}
use Rattle.circ_theory.specs.Observing.{is_hidden}
use Rattle.circ_theory.specs.Goal.{Goal}
use Rattle.circ_rewrite.specs.TheoryRules.{theory_rules}
use Rattle.circ_rewrite.specs.declared.parts.Rule.{Rule}
use Rattle.circ_rewrite.specs.declared.parts.RuleName.TheVariants as name

-- no goal has conditions
abbrev pub HaveNoConditions : List Goal → Type 0
HaveNoConditions gs = AllByRecursion (λ g. g.conds ≡ []) gs

-- the left side is no variable, and has all variables of the right side and of the conditions
abbrev pub can_rewrite : Goal → Bool
can_rewrite g = is_some (operator_number g.left) && is_bound g

-- a goal as a rule, which its number among the goals of earlier blocks names
abbrev pub lemma_rule : (number : ℕ) → Goal → Rule
lemma_rule n g = record { name = name.Lemma n; left = g.left; right = g.right; conds = g.conds }

-- those goals that pass a test, as rules, in order; the first goal has this number
abbrev pub passing : (Goal → Bool) → (number : ℕ) → List Goal → List Rule
passing test n [] = []
passing test n (g ∷ gs) = if test g then lemma_rule n g ∷ passing test (n + 1) gs else passing test (n + 1) gs

abbrev pub is_visible_lemma : Theory → Goal → Bool
is_visible_lemma th g = can_rewrite g && not (is_hidden th (sort_of g.left))

abbrev pub is_hidden_lemma : Theory → Goal → Bool
is_hidden_lemma th g = can_rewrite g && is_hidden th (sort_of g.left)

-- the visible goals that rewrite; the first goal has this number
abbrev pub lemma_rules : Theory → (number : ℕ) → List Goal → List Rule
lemma_rules th n gs = passing (is_visible_lemma th) n gs

-- the hidden goals that rewrite, which a lemma pass uses
abbrev pub hidden_lemmas : Theory → (number : ℕ) → List Goal → List Rule
hidden_lemmas th n gs = passing (is_hidden_lemma th) n gs

-- the rules of a block after these goals
abbrev pub block_rules : Theory → (earlier : List Goal) → List Rule
block_rules th earlier = theory_rules th ++ lemma_rules th 0 earlier
