-- How a proof tells rules and goals apart: each is the tuple of its parts.
use Rattle.std.specs.Prelude.{◌≡◌, ℕ, List, zero, suc, refl}
use Rattle.std.specs.Coded.{Coded, code_by, coded×, coded_ℕ}
use Rattle.circ_term.specs.Tree.{Tree}
use Rattle.circ_term.specs.Code.{tree_code}
use Rattle.circ_theory.specs.Pair.{Pair, pairs_code}
use Rattle.circ_theory.specs.Goal.{Goal}
use Rattle.circ_rewrite.specs.declared.parts.Rule.{Rule}
use Rattle.circ_rewrite.specs.declared.parts.RuleName.{RuleName}
use Rattle.circ_rewrite.specs.declared.parts.RuleName.TheVariants.{Equation, Lemma}

-- a name as two numbers, the first of which tells its kind
abbrev pub name_numbers : RuleName → ℕ × ℕ
name_numbers (Equation n) = (0, n)
name_numbers (Lemma n) = (1, n)

abbrev pub name_at : (kind number : ℕ) → RuleName
name_at zero n = Equation n
name_at (suc k) n = Lemma n

pub name_at-name_numbers : (r : RuleName) → name_at (name_numbers r).0 (name_numbers r).1 ≡ r
name_at-name_numbers (Equation n) = refl
name_at-name_numbers (Lemma n) = refl

abbrev pub name_code : Coded RuleName
name_code = code_by (ℕ × ℕ) (coded× coded_ℕ coded_ℕ) name_numbers (λ p. name_at p.0 p.1) name_at-name_numbers

abbrev pub rule_code : Coded Rule
rule_code =
    code_by (RuleName × (Tree × (Tree × List Pair)))
    (coded× name_code (coded× tree_code (coded× tree_code pairs_code)))
    (λ r. (r.name, (r.left, (r.right, r.conds))))
    (λ p. record { name = p.0; left = p.1.0; right = p.1.1.0; conds = p.1.1.1 })
    (λ _. refl)

abbrev pub goal_code : Coded Goal
goal_code =
    code_by (Tree × (Tree × List Pair)) (coded× tree_code (coded× tree_code pairs_code)) (λ g. (g.left, (g.right, g.conds)))
    (λ p. record { conds = p.1.1; left = p.0; right = p.1.0 }) (λ _. refl)
