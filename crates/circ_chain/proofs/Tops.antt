-- At the top: what is known of a whole term by itself says what comes of normalising it.
use Rattle.std.proofs.Common.{◌≡◌, ℕ, ◌+◌, ◌-◌, ◌≤◌, ◌<◌, suc, List, [], ◌∷◌, ◌++◌, length, Option, ap, sym, ◌∙◌, arith, append_assoc, append-nil, ◌⊎◌, inl, inr}
use Rattle.circ_term.specs.Tree.{Tree, size_of, depth_of}
use Rattle.circ_term.specs.Limits.{node_limit, depth_limit, Limit}
use Rattle.circ_term.proofs.Limits.{first_limit_none, within_limits}
use Rattle.circ_rewrite.specs.Replacement.{Replacement, Placed, Traced, placed, traced}
use Rattle.circ_rewrite.specs.Norm.{Normal_form, Budget_spent, Limit_passed, run}
use Rattle.circ_rewrite.proofs.Standings.{run_done, run_out, run_made, run_past}
use Rattle.circ_chain.specs.Chain.{IsStep, Chain, Reduces, RunsOut, Breaks, Outgrows}

module _ (due : Tree → Option Replacement) where
  pub chain_run : (ts : List Traced) (k : ℕ) (t u : Tree) (before : List Traced) → Chain due node_limit depth_limit t ts u → length ts ≤ k
      → run due k t before ≡ run due (k - length ts) u (before ++ ts)
  chain_run [] k t u before c h =
      let z : k ≡ k - 0 = omega arith in
      ap (λ y. run due k y before) c ∙ ap (λ n. run due n u before) z ∙ ap (run due (k - 0) u) (sym (append-nil before))
  chain_run (tr ∷ ts) k t u before c h =
      let x : Tree = c.0 in
      let s : IsStep due node_limit depth_limit t tr x = c.1 in
      let one : Traced = traced (placed tr.path s.replacement) in
      let counts : length ts + 1 ≤ k = omega arith in
      let step = run_made due k t x before tr.path s.replacement (omega arith) s.is_first.first s.is_first.made (first_limit_none x s.small s.shallow) in
      let rest = chain_run ts (k - 1) x u (before ++ one ∷ []) c.2 (omega arith) in
      let z : k - 1 - length ts ≡ k - suc (length ts) = omega arith in
      step ∙ rest ∙ ap (λ n. run due n u ((before ++ one ∷ []) ++ ts)) z
      ∙ ap (run due (k - suc (length ts)) u) (append_assoc before (one ∷ []) ts ∙ ap (λ y. before ++ y ∷ ts) (sym s.is_trace))

  -- a normal form within the limits, with as many traces as the budget has
  pub reduces_run : (ts : List Traced) (k : ℕ) (t v : Tree) → Reduces due node_limit depth_limit t ts v → length ts ≤ k → run due k t [] ≡ Normal_form v ts (k - length ts)
  reduces_run ts k t v r h = chain_run ts k t v [] r.0 h ∙ run_done due (k - length ts) v ts r.1

  pub out_run : (k : ℕ) (t : Tree) → RunsOut due node_limit depth_limit k t → run due k t [] ≡ Budget_spent
  out_run k t r =
      chain_run r.traces k t r.here [] r.chain (omega (arith, r.count)) ∙ run_out due (k - length r.traces) r.here r.traces r.place (omega (arith, r.count)) r.is_due

  pub breaks_run : (k left : ℕ) (t : Tree) (l : Limit) → Breaks due node_limit depth_limit k left t l → run due k t [] ≡ Limit_passed l left
  breaks_run k left t l b =
      let n = b.next in
      let q : Placed = n.place in
      let z : k - length b.traces ≡ left = omega (arith, b.count) in
      chain_run b.traces k t n.here [] n.chain (omega (arith, n.fewer))
      ∙ run_past due (k - length b.traces) n.here b.new b.traces q.path q.replacement l (omega (arith, n.fewer)) n.is_first.first n.is_first.made b.past ∙ ap (Limit_passed l) z

  -- at the top nothing that is within the limits outgrows the bounds
  pub outgrows_not : (k left : ℕ) (t x : Tree) → Outgrows due node_limit depth_limit k left t x → ⊥
  outgrows_not k left t x o = go o.past
    where
      go : (node_limit < size_of x) ⊎ (depth_limit < depth_of x) → ⊥
      go (inl b) = omega (arith, (within_limits x o.within).0)
      go (inr b) = omega (arith, (within_limits x o.within).1)
