-- Substitutions: functions on variables, which act at all places at once. A variable that is given itself stays.
use Rattle.std.specs.Prelude.{◌≡◌, ℕ}
use Rattle.circ_term.specs.Tree.{Tree, Trees, Var, App, none, more, sort_of}

-- from a variable's number and sort to the term in its place
abbrev pub Substitution : Type 0
Substitution = (number sort : ℕ) → Tree

-- each variable is given a term of its sort
abbrev pub KeepsSorts : Substitution → Type 0
KeepsSorts σ = (number sort : ℕ) → sort_of (σ number sort) ≡ sort

-- the instance of a term under a substitution
abbrev mutual
  pub instance : Substitution → Tree → Tree
  instance σ (Var n s) = σ n s
  instance σ (App f s ts) = App f s (instances σ ts)

  pub instances : Substitution → Trees → Trees
  instances σ none = none
  instances σ (more t ts) = more (instance σ t) (instances σ ts)

-- first σ, then τ
abbrev pub composed : Substitution → Substitution → Substitution
composed τ σ = λ n s. instance τ (σ n s)
