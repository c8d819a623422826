use Rattle.circ_trace.proofs.Traces.{some_answer}
use Rattle.circ_trace.proofs.laws.some_trace.Goals as goal

pub returns : goal.returns
returns c = some_answer
