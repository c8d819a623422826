-- Variables that stand for themselves.
use Rattle.std.specs.Prelude.{◌≡◌, ℕ, ◌||◌, Bool, false, if◌then◌else◌, List, [], ◌∷◌, Some, None, is_some}
use Rattle.std.specs.Option.{option_or}
use Rattle.circ_term.specs.Tree.{Var}
use Rattle.circ_term.specs.Subst.{Bound, found}
use Rattle.circ_theory.specs.Theory.{Pair}
use Rattle.circ_theory.specs.Goal.{Goal}
use Rattle.circ_match.specs.Matcher.{has_variable}
use Rattle.circ_rewrite.specs.declared.parts.Rule.{Rule}

abbrev pub has_pair_variable : Pair → (number sort : ℕ) → Bool
has_pair_variable p n s = has_variable p.left n s || has_variable p.right n s

abbrev pub have_pair_variable : List Pair → (number sort : ℕ) → Bool
have_pair_variable [] n s = false
have_pair_variable (p ∷ ps) n s = has_pair_variable p n s || have_pair_variable ps n s

-- each of these variables that σ does not bind stands for itself in τ, and all others are as in σ
abbrev pub BindsRest : (variables : (number sort : ℕ) → Bool) → (σ τ : List Bound) → Type 0
BindsRest variables σ τ = (n s : ℕ) → found τ n s ≡ option_or (found σ n s) (if variables n s then Some (Var n s) else None)

-- just the variables of both sides are bound
abbrev pub BindsSides : Goal → List Bound → Type 0
BindsSides h σ = (n s : ℕ) → is_some (found σ n s) ≡ (has_variable h.left n s || has_variable h.right n s)

-- just the variables of the left side are bound
abbrev pub BindsLeft : Rule → List Bound → Type 0
BindsLeft r σ = (n s : ℕ) → is_some (found σ n s) ≡ has_variable r.left n s
