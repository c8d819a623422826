-- What traces say: they lead from the term to its normal form.
use Rattle.std.specs.Prelude.{◌≡◌, ℕ, ◌+◌, List, [], ◌∷◌, length, Option, Some}
use Rattle.circ_term.specs.Tree.{Tree, at, replaced}
use Rattle.circ_term.specs.Limits.{IsWithinLimits}
use Rattle.circ_rewrite.specs.Replacement.{Replacement, Placed, Traced, placed, traced}
use Rattle.circ_rewrite.specs.Standing.{IsSettled}

-- The replacement is due at the root of the subterm at its path, and makes the term u, which is within the limits.
pub record IsMadeBy (due : Tree → Option Replacement) (q : Placed) (t u : Tree) : Type 0 where
  pub old : Tree
  pub there : at t q.path ≡ Some old
  pub is_due : due old ≡ Some q.replacement
  pub made : replaced t q.path q.replacement.new ≡ Some u
  pub within : IsWithinLimits u

-- the traces lead from t to u, one replacement after the other
abbrev pub TracesLead : (due : Tree → Option Replacement) → List Traced → (t u : Tree) → Type 0
TracesLead due [] t u = t ≡ u
TracesLead due (tr ∷ ts) t u = (r : Replacement) × (v : Tree) × (tr ≡ traced (placed tr.path r)) × IsMadeBy due (placed tr.path r) t v × TracesLead due ts v u

-- The traces lead from t to u, where nothing is due, and with what is left they are the whole budget.
pub record IsReduction (due : Tree → Option Replacement) (budget : ℕ) (t u : Tree) (traces : List Traced) (left : ℕ) : Type 0 where
  pub leads : TracesLead due traces t u
  pub settled : IsSettled due u
  pub count : left + length traces ≡ budget
