-- What a pattern becomes, and what its variables are given.
use Rattle.std.proofs.Common.{◌≡◌, ℕ, Bool, true, false, ◌==◌, ◌||◌, refl, ap, ◌∙◌}
use Rattle.std.proofs.lemmas.Bool.{eqb-true, eq-eqb, and_parts}
use Rattle.circ_term.specs.Tree.{Tree, Trees, Var, App, none, more}
use Rattle.circ_term.specs.Substitution.{Substitution, instance, instances}
use Rattle.circ_match.specs.Matcher.{has_variable, have_variable}

either : {X : Type 0} (a b : Bool) → (a || b) ≡ true → (a ≡ true → X) → (b ≡ true → X) → X
either true b h x y = x refl
either false b h x y = y h

mutual
  pub variable-instance : (σ τ : Substitution) (t : Tree) → instance σ t ≡ instance τ t → (n s : ℕ) → has_variable t n s ≡ true → σ n s ≡ τ n s
  variable-instance σ τ (Var m k) e n s h =
      let parts = and_parts (m == n) (k == s) h in
      rw (eqb-true m n parts.0, eqb-true k s parts.1) at e
  variable-instance σ τ (App f k ts) e n s h = variable-instances σ τ ts (cc) n s h

  variable-instances : (σ τ : Substitution) (ts : Trees) → instances σ ts ≡ instances τ ts → (n s : ℕ) → have_variable ts n s ≡ true → σ n s ≡ τ n s
  variable-instances σ τ none e n s h = absurd (cc)
  variable-instances σ τ (more t ts) e n s h =
      either (has_variable t n s) (have_variable ts n s) h (variable-instance σ τ t (cc) n s) (variable-instances σ τ ts (cc) n s)

mutual
  pub instance-variable : (σ τ : Substitution) (t : Tree) → ((n s : ℕ) → has_variable t n s ≡ true → σ n s ≡ τ n s) → instance σ t ≡ instance τ t
  instance-variable σ τ (Var m k) h = h m k (rw (eq-eqb m m refl, eq-eqb k k refl) refl)
  instance-variable σ τ (App f k ts) h = ap (App f k) (instances-variable σ τ ts h)

  instances-variable : (σ τ : Substitution) (ts : Trees) → ((n s : ℕ) → have_variable ts n s ≡ true → σ n s ≡ τ n s) → instances σ ts ≡ instances τ ts
  instances-variable σ τ none h = refl
  instances-variable σ τ (more t ts) h =
      ap (λ u. more u (instances σ ts)) (instance-variable σ τ t (λ n s o. h n s (rw o refl)))
      ∙ ap (more (instance τ t)) (instances-variable σ τ ts (λ n s o. h n s (behind (has_variable t n s) (have_variable ts n s) o)))
    where
      behind : (a b : Bool) → b ≡ true → (a || b) ≡ true
      behind true b o = refl
      behind false b o = o
