-- What is known of a whole term by itself answers for it.
use Rattle.std.proofs.Common.{◌≡◌, ℕ, ◌+◌, ◌-◌, List, [], Option, ap, ◌∙◌, arith}
use Rattle.circ_term.specs.Tree.{Tree}
use Rattle.circ_term.specs.Limits.{Big, Deep, node_limit, depth_limit}
use Rattle.circ_rewrite.specs.Replacement.{Replacement}
use Rattle.circ_rewrite.specs.Norm.{Normal_form, run}
use Rattle.circ_rewrite.specs.Plain.{Faults}
use Rattle.circ_rewrite.specs.declared.fault.RewriteFault.{RewriteFault}
use Rattle.circ_rewrite.specs.declared.fault.RewriteFault.TheVariants.{Spent, TooBig, TooDeep, Memory}
use Rattle.circ_chain.proofs.Tops.{out_run, breaks_run, outgrows_not}
use Rattle.circ_chain.proofs.Keeping.{kept_answers}
use Rattle.circ_memo.specs.Keeping.{IsForm, IsInBounds}
use Rattle.circ_memo.specs.Settling.{Faulted, Stops}
use Rattle.circ_memo.specs.declared.parts.Bounds.{Bounds}
use Rattle.circ_memo.specs.declared.parts.Entry.{Entry}
use Rattle.circ_memo.specs.declared.parts.Stop.TheVariants as stop

abbrev pub limits : Bounds
limits = record { big = node_limit; deep = depth_limit }

module _ (due : Tree → Option Replacement) (nodes : List Tree) (k left : ℕ) (t : Tree) where
  pub answers_form : (e : Entry) → (f : IsForm due nodes t e) → IsInBounds limits e → left + e.count ≡ k → run due k t [] ≡ Normal_form f.value f.traces left
  answers_form e f w counts =
      let z : k - e.count ≡ left = omega arith in
      kept_answers due t f.value f.traces e.count e.big e.deep k f.form (omega arith) w.small w.shallow ∙ ap (Normal_form f.value f.traces) z

  pub answers_fault : (e : RewriteFault) → Faulted due nodes limits k left t e → Faults e left (run due k t [])
  answers_fault Spent h = (out_run due k t h.0, h.1)
  answers_fault (TooBig n) h = breaks_run due k left t (Big n) h
  answers_fault (TooDeep n) h = breaks_run due k left t (Deep n) h
  answers_fault Memory h = tt

  pub no_outgrowth : (m : ℕ) → Stops due nodes limits k left t (stop.Outgrows m) → ⊥
  no_outgrowth m h = outgrows_not due k left t h.0 h.2
