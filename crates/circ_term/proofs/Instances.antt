-- Laws of instances.
use Rattle.std.proofs.Common.{◌≡◌, ℕ, true, length, suc, refl, ap, ◌∙◌}
use Rattle.std.proofs.lemmas.Bool.{and_parts}
use Rattle.circ_term.specs.Tree.{Tree, Trees, Var, App, none, more, is_ground, are_ground, list_of}
use Rattle.circ_term.specs.Substitution.{Substitution, instance, instances, composed}

-- an instance of an instance
mutual
  pub instance-instance : (τ σ : Substitution) (t : Tree) → instance τ (instance σ t) ≡ instance (composed τ σ) t
  instance-instance τ σ (Var n s) = refl
  instance-instance τ σ (App f s ts) = ap (App f s) (instances-instances τ σ ts)

  pub instances-instances : (τ σ : Substitution) (ts : Trees) → instances τ (instances σ ts) ≡ instances (composed τ σ) ts
  instances-instances τ σ none = refl
  instances-instances τ σ (more t ts) =
      ap (λ x. more x (instances τ (instances σ ts))) (instance-instance τ σ t)
      ∙ ap (more (instance (composed τ σ) t)) (instances-instances τ σ ts)

-- a term without a variable is its own instance
mutual
  pub instance-is_ground : (σ : Substitution) (t : Tree) → is_ground t ≡ true → instance σ t ≡ t
  instance-is_ground σ (Var n s) e = absurd (cc)
  instance-is_ground σ (App f s ts) e = ap (App f s) (instances-are_ground σ ts e)

  pub instances-are_ground : (σ : Substitution) (ts : Trees) → are_ground ts ≡ true → instances σ ts ≡ ts
  instances-are_ground σ none e = refl
  instances-are_ground σ (more t ts) e =
      let parts = and_parts (is_ground t) (are_ground ts) e in
      ap (λ x. more x (instances σ ts)) (instance-is_ground σ t parts.0) ∙ ap (more t) (instances-are_ground σ ts parts.1)

pub length-instances : (σ : Substitution) (ts : Trees) → length (list_of (instances σ ts)) ≡ length (list_of ts)
length-instances σ none = refl
length-instances σ (more t ts) = ap suc (length-instances σ ts)

-- substitutions that agree at each variable give the same instances
mutual
  pub instance-same : (σ τ : Substitution) (t : Tree) → ((n s : ℕ) → σ n s ≡ τ n s) → instance σ t ≡ instance τ t
  instance-same σ τ (Var n s) e = e n s
  instance-same σ τ (App f s ts) e = ap (App f s) (instances-same σ τ ts e)

  pub instances-same : (σ τ : Substitution) (ts : Trees) → ((n s : ℕ) → σ n s ≡ τ n s) → instances σ ts ≡ instances τ ts
  instances-same σ τ none e = refl
  instances-same σ τ (more t ts) e = ap (λ x. more x (instances σ ts)) (instance-same σ τ t e) ∙ ap (more (instance τ t)) (instances-same σ τ ts e)

-- where each variable is given itself, the term stays
mutual
  pub instance-Var : (t : Tree) → instance Var t ≡ t
  instance-Var (Var n s) = refl
  instance-Var (App f s ts) = ap (App f s) (instances-Var ts)

  pub instances-Var : (ts : Trees) → instances Var ts ≡ ts
  instances-Var none = refl
  instances-Var (more t ts) = ap (λ x. more x (instances Var ts)) (instance-Var t) ∙ ap (more t) (instances-Var ts)
