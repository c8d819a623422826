-- A chain that comes back to its start is made as often as a budget allows.
use Rattle.std.proofs.Common.{◌≡◌, ℕ, ◌<◌, zero, suc, List, [], ◌∷◌, length, Option, refl, sym, subst, arith}
use Rattle.circ_term.specs.Tree.{Tree}
use Rattle.circ_rewrite.specs.Replacement.{Replacement, Traced, placed}
use Rattle.circ_chain.specs.Chain.{IsStep, Chain, RunsOut}
use Rattle.circ_chain.proofs.Chains.{out_on}

module _ (due : Tree → Option Replacement) (big deep : ℕ) where
  due_now : (s : Traced) (u x : Tree) → IsStep due big deep u s x → RunsOut due big deep 0 u
  due_now s u x i = record { traces = []; here = u; place = placed s.path i.replacement; chain = refl; count = refl; is_due = i.is_first.first }

  one_more : (k : ℕ) (s : Traced) (u x : Tree) → IsStep due big deep u s x → RunsOut due big deep k x → RunsOut due big deep (suc k) u
  one_more k s u x i r = out_on due big deep k (suc k) (s ∷ []) u x (x, i, refl) r (omega arith)

  module _ (t : Tree) (s : Traced) (ss : List Traced) (again : Chain due big deep t (s ∷ ss) t) where
    -- from anywhere on the way back
    out_from : (k : ℕ) (rs : List Traced) (u : Tree) → Chain due big deep u rs t → RunsOut due big deep k u
    out_from zero [] u c = due_now s u again.0 (subst (λ x. IsStep due big deep x s again.0) (sym c) again.1)
    out_from (suc k) [] u c = one_more k s u again.0 (subst (λ x. IsStep due big deep x s again.0) (sym c) again.1) (out_from k ss again.0 again.2)
    out_from zero (r ∷ rs) u c = due_now r u c.0 c.1
    out_from (suc k) (r ∷ rs) u c = one_more k r u c.0 c.1 (out_from k rs c.0 c.2)

  pub out_again : (k : ℕ) (ts : List Traced) (t : Tree) → 0 < length ts → Chain due big deep t ts t → RunsOut due big deep k t
  out_again k [] t some c = absurd (omega (arith, some))
  out_again k (s ∷ ss) t some c = out_from t s ss c k [] t refl
