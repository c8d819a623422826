-- Matching: which substitutions make patterns the terms.
use Rattle.std.specs.Prelude.{◌≡◌, ◌↔◌, ℕ, Bool, true, false, ◌==◌, ◌&&◌, ◌||◌, List, Option, Some, None, is_some}
use Rattle.circ_term.specs.Tree.{Tree, Trees, Var, App, none, more}
use Rattle.circ_term.specs.Substitution.{Substitution, KeepsSorts, instance}
use Rattle.circ_term.specs.Subst.{Bound, found, substitution_of}

-- the substitution makes the pattern the term
abbrev pub Makes : (pattern term : Tree) → Substitution → Type 0
Makes pattern term τ = instance τ pattern ≡ term

-- whether the variable occurs in the term
abbrev mutual
  pub has_variable : Tree → (number sort : ℕ) → Bool
  has_variable (Var m k) n s = (m == n) && (k == s)
  has_variable (App f k ts) n s = have_variable ts n s

  pub have_variable : Trees → (number sort : ℕ) → Bool
  have_variable none n s = false
  have_variable (more t ts) n s = has_variable t n s || have_variable ts n s

-- The substitution keeps sorts, solves the matching problem, and binds exactly these variables.
pub record IsMatcher (Solves : Substitution → Type 0) (variables : (number sort : ℕ) → Bool) (σ : List Bound) : Type 0 where
  pub sorts : KeepsSorts (substitution_of σ)
  pub makes : Solves (substitution_of σ)
  pub binds : (n s : ℕ) → is_some (found σ n s) ≡ variables n s

-- What matching answers: a matcher; or none, where no substitution that keeps sorts solves the problem.
abbrev pub Matches : (Solves : Substitution → Type 0) (variables : (number sort : ℕ) → Bool) → Option (List Bound) → Type 0
Matches Solves variables (Some σ) = IsMatcher Solves variables σ
Matches Solves variables None = (τ : Substitution) → KeepsSorts τ → Solves τ → ⊥

-- Two substitutions make the same of a pattern exactly where they give its variables the same terms.
abbrev pub VariablesDecide : Type 0
VariablesDecide = (σ τ : Substitution) (pattern : Tree)
    → (instance σ pattern ≡ instance τ pattern) ↔ ((n s : ℕ) → has_variable pattern n s ≡ true → σ n s ≡ τ n s)
