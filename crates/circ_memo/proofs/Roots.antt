-- What comes of a replacement at the root of a term with normal arguments.
use Rattle.std.proofs.Common.{◌≡◌, ℕ, ◌<◌, ◌⊎◌, List, [], Option, Some, arith}
use Rattle.circ_term.specs.Tree.{Tree, size_of, depth_of}
use Rattle.circ_term.specs.Limits.{IsWithinLimits, first_limit, Names}
use Rattle.circ_term.specs.declared.fault.TermFault.{TermFault}
use Rattle.circ_term.specs.declared.fault.TermFault.TheVariants.{TooBig, TooDeep, Memory}
use Rattle.circ_rewrite.specs.Replacement.{Replacement}
use Rattle.circ_rewrite.specs.Standing.{HasSettledBelow}
use Rattle.circ_rewrite.specs.Plain.{rewrite_fault}
use Rattle.circ_rewrite.specs.declared.fault.RewriteFault.TheVariants as fault
use Rattle.circ_chain.specs.Chain.{Outgrows}
use Rattle.circ_chain.specs.Through.{Readies}
use Rattle.circ_chain.proofs.Roots.{readies_self, readies_weaken, root_out, root_breaks, root_outgrows}
use Rattle.circ_memo.specs.Settling.{Faulted, Stops}
use Rattle.circ_memo.specs.declared.parts.Bounds.{Bounds}
use Rattle.circ_memo.specs.declared.parts.Stop.TheVariants as stop

module _ (due : Tree → Option Replacement) (nodes : List Tree) (b : Bounds) (u : Tree) (r : Replacement) (h : HasSettledBelow due u) (e : due u ≡ Some r) where
  self : Readies due b.big b.deep u [] u
  self = readies_weaken due 0 0 b.big b.deep u [] u (readies_self due u h) (omega arith) (omega arith)

  pub stops_spent : (k : ℕ) → k ≡ 0 → Stops due nodes b k k u (stop.Fault fault.Spent)
  stops_spent k z = (root_out due b.big b.deep k u [] u r self e (omega (arith, z)), z)

  pub stops_broken : (k : ℕ) (f : TermFault) → 0 < k → Names f (first_limit r.new) → Faulted due nodes b k k u (rewrite_fault f)
  stops_broken k (TooBig n) s x = root_breaks due b.big b.deep k k u [] u r _ self e s (omega arith) x
  stops_broken k (TooDeep n) s x = root_breaks due b.big b.deep k k u [] u r _ self e s (omega arith) x
  stops_broken k Memory s x = tt

  pub stops_past : (k : ℕ) → 0 < k → IsWithinLimits r.new → (b.big < size_of r.new) ⊎ (b.deep < depth_of r.new) → Outgrows due b.big b.deep k k u r.new
  stops_past k s w p = root_outgrows due b.big b.deep k k u [] u r self e s (omega arith) w p
