use Rattle.circ_trace.proofs.Traces.{as_search}
use Rattle.circ_trace.proofs.laws.traces_end_as_searches.Goals as goal

pub returns : goal.returns
returns c = as_search
