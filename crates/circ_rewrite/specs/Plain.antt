-- What contracts see of traces, normal forms and faults.
use Rattle.std.specs.Prelude.{◌≡◌, ℕ, List, [], ◌∷◌, map, Result, Ok, Err}
use Rattle.circ_term.specs.Limits.{Big, Deep}
use Rattle.circ_term.specs.declared.fault.TermFault.{TermFault}
use Rattle.circ_term.specs.declared.fault.TermFault.TheVariants as term
use Rattle.circ_rewrite.specs.Replacement.{Traced, By_rule, By_assumption, By_content, Traces, no_trace, more_traces, Passes, no_pass, more_passes, trace_row}
use Rattle.circ_rewrite.specs.Norm.{Normalised, Normal_form, Budget_spent, Limit_passed}
use Rattle.circ_rewrite.specs.declared.fault.RewriteFault.{RewriteFault}
use Rattle.circ_rewrite.specs.declared.fault.RewriteFault.TheVariants.{Spent, TooBig, TooDeep, Memory}
use Rattle.circ_rewrite.specs.declared.parts.Trace.{Trace, Rewrite', Assumed, Content, Row_of-Trace, end_of-Trace, more_of-Trace}
use Rattle.circ_rewrite.specs.declared.parts.Trace.{Row_of-Pass, end_of-Pass, more_of-Pass}
use Rattle.circ_rewrite.specs.declared.parts.Pass.{Pass}
use Rattle.circ_rewrite.specs.declared.parts.Normal.{Normal}

-- Those inside a trace lie in rows.
abbrev mutual
  pub plain_trace : Trace → Traced
  plain_trace (Rewrite' name path terms shape row) = record { path = path.items; reason = By_rule name terms.items (plain_pass_row row) }
  plain_trace (Assumed number path) = record { path = path.items; reason = By_assumption number }
  plain_trace (Content op path term) = record { path = path.items; reason = By_content op term }

  pub plain_pass_row : {m : _} → Row_of-Pass m → Passes
  plain_pass_row end_of-Pass = no_pass
  plain_pass_row (more_of-Pass shape left shape_right right rest) = more_passes (plain_trace_row left) (plain_trace_row right) (plain_pass_row rest)

  pub plain_trace_row : {m : _} → Row_of-Trace m → Traces
  plain_trace_row end_of-Trace = no_trace
  plain_trace_row (more_of-Trace trace rest) = more_traces (plain_trace trace).path (plain_trace trace).reason (plain_trace_row rest)

abbrev pub plain_traces : List Trace → List Traced
plain_traces ts = map plain_trace ts

abbrev pub plain_passes : List Pass → Passes
plain_passes [] = no_pass
plain_passes (p ∷ ps) = more_passes (trace_row (plain_traces p.left.items)) (trace_row (plain_traces p.right.items)) (plain_passes ps)

-- the fault says what it comes to, with what is left of the budget; or memory ran out
abbrev pub Faults : RewriteFault → (left : ℕ) → Normalised → Type 0
Faults Spent left o = (o ≡ Budget_spent) × (left ≡ 0)
Faults (TooBig nodes) left o = o ≡ Limit_passed (Big nodes) left
Faults (TooDeep depth) left o = o ≡ Limit_passed (Deep depth) left
Faults Memory left o = Unit {0}

-- the answer says what it comes to, with what is left of the budget
abbrev pub Answers : Result Normal RewriteFault → (left : ℕ) → Normalised → Type 0
Answers (Ok n) left o = o ≡ Normal_form n.term (plain_traces n.traces.items) left
Answers (Err e) left o = Faults e left o

-- a fault of a term that is built
abbrev pub rewrite_fault : TermFault → RewriteFault
rewrite_fault (term.TooBig nodes) = TooBig nodes
rewrite_fault (term.TooDeep depth) = TooDeep depth
rewrite_fault term.Memory = Memory
