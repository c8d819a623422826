use Rattle.std.proofs.Common.{◌≡◌, ◌++◌, map}
use Rattle.circ_contexts.proofs.tracing.push_all.Given as goal

abbrev pub invariant-loop-normal : goal.invariant-loop-normal
invariant-loop-normal l =
    l.traces.items ++ map (λ n. n.traces) l.normal-iterator.rest.items ≡ l.initial.traces.items ++ map (λ n. n.traces) l.fn.normals.items
