-- What is kept of a term, and what it is used for.
use Rattle.std.proofs.Common.{◌≡◌, ℕ, ◌-◌, ◌≤◌, List, [], ◌∷◌, Option, ap, ◌∙◌, arith}
use Rattle.circ_term.specs.Tree.{Tree}
use Rattle.circ_term.specs.Limits.{node_limit, depth_limit}
use Rattle.circ_rewrite.specs.Replacement.{Replacement, Traced}
use Rattle.circ_rewrite.specs.Norm.{Normal_form, first_due, run}
use Rattle.circ_rewrite.specs.Standing.{IsSettled}
use Rattle.circ_chain.specs.Kept.{IsKeptForm}
use Rattle.circ_chain.proofs.Chains.{reduces_weaken}
use Rattle.circ_chain.proofs.Tops.{reduces_run}

module _ (due : Tree → Option Replacement) where
  pub kept_none : (t v : Tree) (ts : List Traced) (count big deep : ℕ) → IsKeptForm due t v ts count big deep → count ≡ 0 → (t ≡ v) × IsSettled due t
  kept_none t v [] count big deep h z = (h.reduces.0, ap (first_due due) h.reduces.0 ∙ h.reduces.1)
  kept_none t v (tr ∷ ts) count big deep h z = absurd (omega (arith, h.count_is))

  -- what is kept answers, where the budget and the limits allow it
  pub kept_answers : (t v : Tree) (ts : List Traced) (count big deep k : ℕ) → IsKeptForm due t v ts count big deep → count ≤ k → big ≤ node_limit → deep ≤ depth_limit
      → run due k t [] ≡ Normal_form v ts (k - count)
  kept_answers t v ts count big deep k h covers small shallow =
      let all = reduces_weaken due big deep node_limit depth_limit ts t v small shallow h.reduces in
      reduces_run due ts k t v all (omega (arith, h.count_is)) ∙ ap (λ c. Normal_form v ts (k - c)) h.count_is
