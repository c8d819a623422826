-- Substitutions that agree at the variables of a term give the same instance of it.
use Rattle.std.proofs.Common.{◌≡◌, ℕ, Bool, true, false, ◌||◌, List, ◌++◌, refl, ap, ◌∙◌}
use Rattle.std.specs.List.{list_any}
use Rattle.std.proofs.lemmas.Bool.{eq-eqb}
use Rattle.std.proofs.lemmas.List.Folds.{list_any-append}
use Rattle.circ_term.specs.Tree.{Tree, Trees, Var, App, none, more}
use Rattle.circ_term.specs.Substitution.{Substitution, instance, instances}
use Rattle.circ_theory.specs.Variables.{Variable, is_variable, occurrences, all_occurrences}

-- whether the variable (m, k) is one of these
abbrev pub stands : (m k : ℕ) → List Variable → Bool
stands m k vs = list_any (is_variable (record { number = m; sort = k })) vs

pub stands-append : (m k : ℕ) (vs ws : List Variable) → stands m k (vs ++ ws) ≡ (stands m k vs || stands m k ws)
stands-append m k vs ws = list_any-append (is_variable (record { number = m; sort = k })) vs ws

pub neither : (a b : Bool) → (a || b) ≡ false → (a ≡ false) × (b ≡ false)
neither true b e = absurd (cc)
neither false b e = (refl, e)

or_true : (b : Bool) → (b || true) ≡ true
or_true true = refl
or_true false = refl

abbrev pub Agree : Substitution → Substitution → List Variable → Type 0
Agree σ τ vs = (m k : ℕ) → stands m k vs ≡ true → σ m k ≡ τ m k

agree_first : (σ τ : Substitution) (vs ws : List Variable) → Agree σ τ (vs ++ ws) → Agree σ τ vs
agree_first σ τ vs ws a m k e = a m k (stands-append m k vs ws ∙ rw e refl)

agree_second : (σ τ : Substitution) (vs ws : List Variable) → Agree σ τ (vs ++ ws) → Agree σ τ ws
agree_second σ τ vs ws a m k e = a m k (stands-append m k vs ws ∙ rw e (or_true (stands m k vs)))

mutual
  pub same_instance : (σ τ : Substitution) (t : Tree) → Agree σ τ (occurrences t) → instance σ t ≡ instance τ t
  same_instance σ τ (Var n s) a = a n s (rw (eq-eqb n n refl, eq-eqb s s refl) refl)
  same_instance σ τ (App f s ts) a = ap (App f s) (same_instances σ τ ts a)

  pub same_instances : (σ τ : Substitution) (ts : Trees) → Agree σ τ (all_occurrences ts) → instances σ ts ≡ instances τ ts
  same_instances σ τ none a = refl
  same_instances σ τ (more t ts) a =
      ap (λ x. more x (instances σ ts)) (same_instance σ τ t (agree_first σ τ (occurrences t) (all_occurrences ts) a))
      ∙ ap (more (instance τ t)) (same_instances σ τ ts (agree_second σ τ (occurrences t) (all_occurrences ts) a))
