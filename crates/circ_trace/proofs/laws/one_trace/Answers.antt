use Rattle.circ_trace.proofs.Traces.{one_answer}
use Rattle.circ_trace.proofs.laws.one_trace.Goals as goal

pub returns : goal.returns
returns c = one_answer
