use Rattle.std.proofs.Common.{List, map}
use Rattle.circ_theory.specs.Goal.{Goal}
use Rattle.circ_trace.proofs.tracing.trace_with.Goals as goal

pub trace_from-traced-requires-clause-start : goal.trace_from-traced-requires-clause-start
trace_from-traced-requires-clause-start c = record {
  blocks = map (λ b. b.items) c.args.blocks.now;
  searchable = c.requires.searchable;
  start = c.in_ok-state.ensures c.args.limits.now.derives;
}

pub returns : goal.returns
returns c =
    let bs : List (List Goal) = map (λ b. b.items) c.args.blocks.now in
    c.trace_from-traced.ensures bs (c.in_ok-state.ensures c.args.limits.now.derives)
