-- What `trace` answers.
use Rattle.std.proofs.Common.{◌≡◌, List, [], sym, ap, subst, None}
use Rattle.circ_theory.specs.Theory.{Theory}
use Rattle.circ_theory.specs.Goal.{Goal}
use Rattle.circ_attempt.specs.Search.{Conduct}
use Rattle.circ_status.specs.Ending.{Ending}
use Rattle.circ_trace.specs.Tracing.{TraceEnds}
use Rattle.circ_trace.proofs.Traces.{trace_found}
use Rattle.circ_trace.proofs.Traces as traces
use Rattle.circ_search.specs.Plain.{conduct_with}
use Rattle.circ_top.specs.Trace.{TraceSought}
use Rattle.circ_top.proofs.ScriptOutcomes.{EndsOnce}
use Rattle.circ_top.proofs.Searches.{IsSearchEnd, found_end}
use Rattle.circ_turn.specs.declared.search.Limits.{Limits as TheLimits}

-- a trace ends in one way
pub one_trace : (limits : TheLimits) → EndsOnce (TraceSought limits)
one_trace limits th blocks d e a b = traces.one_answer th (conduct_with limits) blocks d e a b

-- a trace ends as a search, and stores nothing
pub trace_end : (th : Theory) (l : Conduct) (blocks : List (List Goal)) (e : Ending) → TraceEnds th l blocks e → IsSearchEnd e.status × (e.stored ≡ None)
trace_end th l blocks e t =
    let x = trace_found th l blocks e t in
    (subst IsSearchEnd (sym (ap (λ y. y.status) x.2)) (found_end th.signature [] x.0).0, ap (λ y. y.stored) x.2)
