use Rattle.circ_contexts.proofs.candidates.Means.set_with_traces.Goals as goal

pub traces-requires-clause-candidates : goal.traces-requires-clause-candidates
traces-requires-clause-candidates c = rw c.places.ensures.value c.in_ok-gamma.ensures.exact.candidates

pub returns : goal.returns
returns c = record { greatest = c.in_ok-gamma.ensures.exact.greatest _ (rw c.places.ensures.value at c.in_ok-traces.ensures) }
