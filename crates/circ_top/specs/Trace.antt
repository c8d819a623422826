-- What `trace` does: its outcome.
use Rattle.std.specs.Prelude.{ℕ, List, Option}
use Rattle.circ_outer.specs.Shelf.{ShelfState}
use Rattle.circ_search.specs.Plain.{conduct_with}
use Rattle.circ_conditional_search.specs.ConditionalSearch.{CanAllBeSearched}
use Rattle.circ_trace.specs.Tracing.{TraceEnds}
use Rattle.circ_files.specs.Files.{Held}
use Rattle.circ_status.specs.Ending.{Stored, Ending}
use Rattle.circ_status.specs.declared.status.Status.{Status}
use Rattle.circ_top.specs.Command.{Trace}
use Rattle.circ_top.specs.Scripted.{GoalsEnd, to_prove, ScriptOutcome, IsDoneOn}
use Rattle.circ_turn.specs.declared.search.Limits.{Limits}

-- how the trace of the search for a proof of the goals ends, within limits
abbrev pub TraceSought : (limits : Limits) → GoalsEnd
TraceSought limits th blocks e = TraceEnds th (conduct_with limits) blocks e

abbrev pub TraceOutcome : Held → Limits → (theory script : List ℕ) → Status → (text : List ℕ) → (stored : Option Stored) → Type 0
TraceOutcome held limits theory script s text stored =
    ScriptOutcome to_prove held (Trace limits theory script) theory script (TraceSought limits) s text stored

-- The two files read, the script's goals can be searched, and the trace ends so.
pub record IsTraced (limits : Limits) (theory script : List ℕ) (e : Ending) (before : ShelfState) : Type 0 where
  pub done : IsDoneOn to_prove theory script (TraceSought limits) e before
  pub searchable : CanAllBeSearched done.th done.sc.blocks
