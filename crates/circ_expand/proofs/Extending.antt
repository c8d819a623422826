-- The parameters of an entry before a substitution.
use Rattle.std.proofs.Common.{◌≡◌, ℕ, Option, Some, None, unwrap_or, refl, ap, sym, ◌∙◌}
use Rattle.std.specs.List.{slice_get}
use Rattle.std.specs.Option.{option_map}
use Rattle.circ_term.specs.Tree.{Tree, Var}
use Rattle.circ_term.specs.Substitution.{Substitution}
use Rattle.circ_theory.specs.Theory.{Theory, Derivative}
use Rattle.circ_theory.specs.Observing.{derivative_with}
use Rattle.circ_entry.specs.Entries.{derivative_at, no_derivative}
use Rattle.circ_expansion.specs.Expand.{extended}
use Rattle.circ_uses.proofs.Holes.{same_by}

-- the body of a derivative, or of what stands for one
pub body_at : (th : Theory) (n : ℕ) (o : Option Tree) → o ≡ option_map (λ (d : Derivative). d.body) (slice_get th.derivatives n)
    → unwrap_or o (Var 0 0) ≡ (derivative_at th n).body
body_at th n o e = ap (λ x. unwrap_or x (Var 0 0)) e ∙ go (slice_get th.derivatives n)
  where
    go : (x : Option Derivative) → unwrap_or (option_map (λ (d : Derivative). d.body) x) (Var 0 0) ≡ (unwrap_or x no_derivative).body
    go None = refl
    go (Some d) = refl

-- of the derivative its body alone is read
pub by_entry : (σ τ : Substitution) (d : Derivative) (b : Tree) (j k : ℕ) (p q : Substitution)
    → ((n s : ℕ) → τ n s ≡ extended (derivative_with 0 b) j σ p n s) → b ≡ d.body → j ≡ k → p ≡ q → τ ≡ extended d k σ q
by_entry σ τ d b j k p q e is at same =
    same_by τ (extended (derivative_with 0 b) j σ p) e ∙ (λ i. extended (derivative_with 0 (is i)) (at i) σ (same i))
