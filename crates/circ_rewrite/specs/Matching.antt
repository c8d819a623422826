-- Matching as a function of trees: each variable of the pattern is given the subterm at its first occurrence.
use Rattle.std.specs.Prelude.{◌≡◌, ◌↔◌, ℕ, Bool, IsTrue, true, ◌==◌, ◌&&◌, if◌then◌else◌, Option, Some, None}
use Rattle.std.specs.Option.{option_or, unwrap_or}
use Rattle.circ_term.specs.Tree.{Tree, Trees, Var, App, none, more, sort_of}
use Rattle.circ_term.specs.Order.{is_same}
use Rattle.circ_term.specs.Substitution.{Substitution, KeepsSorts, instance}
use Rattle.circ_match.specs.Matcher.{Makes, has_variable}

-- the subterm at the first place, from the left, where the pattern has the variable, if it is of the variable's sort
abbrev mutual
  pub image : (pattern term : Tree) → (number sort : ℕ) → Option Tree
  image (Var m k) t n s = if (m == n) && (k == s) then (if sort_of t == s then Some t else None) else None
  image (App f k ps) (Var m j) n s = None
  image (App f k ps) (App g j ts) n s = images ps ts n s

  pub images : (patterns terms : Trees) → (number sort : ℕ) → Option Tree
  images none ts n s = None
  images (more p ps) none n s = None
  images (more p ps) (more t ts) n s = option_or (image p t n s) (images ps ts n s)

-- the substitution that makes the pattern the term, where there is one
abbrev pub matching : (pattern term : Tree) → Substitution
matching p t = λ n s. unwrap_or (image p t n s) (Var n s)

-- whether there is one
abbrev pub matches : (pattern term : Tree) → Bool
matches p t = is_same (instance (matching p t) p) t

-- These say what they are meant to: the pattern matches exactly where some substitution that keeps sorts makes it the term, and
-- each such substitution gives the pattern's variables what `matching` gives them.
pub record MatchingDecides (p t : Tree) : Type 0 where
  pub matches : IsTrue (matches p t) ↔ ((τ : Substitution) × KeepsSorts τ × Makes p t τ)
  pub sorts : KeepsSorts (matching p t)
  pub only : (τ : Substitution) → KeepsSorts τ → Makes p t τ → (n s : ℕ) → has_variable p n s ≡ true → τ n s ≡ matching p t n s
