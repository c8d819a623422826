-- How bindings grow while a pattern is gone over.
use Rattle.std.specs.Prelude.{◌≡◌, ◌↔◌, ℕ, Bool, true, false, ◌||◌, List, Some, is_some}
use Rattle.std.specs.Bool.{OnTrue}
use Rattle.circ_term.specs.Tree.{Tree, Trees}
use Rattle.circ_term.specs.Substitution.{Substitution, KeepsSorts, instances}
use Rattle.circ_term.specs.Subst.{Bound, found}

-- the substitution makes each pattern the term at its place
abbrev pub MakeAll : (patterns terms : Trees) → Substitution → Type 0
MakeAll patterns terms τ = instances τ patterns ≡ terms

-- each variable that is bound is given its term
abbrev pub Agrees : Substitution → List Bound → Type 0
Agrees τ σ = (n s : ℕ) (t : Tree) → found σ n s ≡ Some t → τ n s ≡ t

-- True: those that agree with ρ are those that agree with σ and solve the problem. False: none does both.
abbrev pub Extends : (σ ρ : List Bound) (Solves : Substitution → Type 0) → Bool → Type 0
Extends σ ρ Solves true = (τ : Substitution) → KeepsSorts τ → (Agrees τ ρ ↔ (Agrees τ σ × Solves τ))
Extends σ ρ Solves false = (τ : Substitution) → KeepsSorts τ → Agrees τ σ → Solves τ → ⊥

-- True: ρ binds the variables that σ binds, and these.
abbrev pub BindsBesides : (σ ρ : List Bound) (variables : (number sort : ℕ) → Bool) → Bool → Type 0
BindsBesides σ ρ variables b = OnTrue b ((n s : ℕ) → is_some (found ρ n s) ≡ (is_some (found σ n s) || variables n s))
