use Rattle.std.proofs.Common.{◌+◌, ◌*◌, map}
use Rattle.circ_proof.specs.Plain.{plain_link, plain_chain}
use Rattle.circ_proof.specs.Nesting.{link_nesting, links_nesting}
use Rattle.circ_rewrite.specs.Plain.{plain_trace, plain_traces}
use Rattle.circ_rewrite.specs.Links.{link_of}
use Rattle.circ_rewrite.proofs.TraceLinks.{IsDoneInPart, chain_by, chains_nested}
use Rattle.circ_rewrite.proofs.links.+link.Given as goal

abbrev pub decreases-chains : goal.decreases-chains
decreases-chains l = 4 * chains_nested (map chain_by l.passes.items)

abbrev pub decreases-link : goal.decreases-link
decreases-link l = 4 * link_nesting (link_of (plain_trace l.trace)) + 1

abbrev pub decreases-links_of : goal.decreases-links_of
decreases-links_of l = 4 * links_nesting (map link_of (plain_traces l.traces.items)) + 2

abbrev pub invariant-links_of-loop-trace : goal.invariant-links_of-loop-trace
invariant-links_of-loop-trace l =
    IsDoneInPart links_nesting (map plain_link l.links.items) (map link_of (plain_traces l.trace-iterator.rest.items)) (map link_of (plain_traces l.fn.traces.items))

abbrev pub invariant-chains-loop-pass : goal.invariant-chains-loop-pass
invariant-chains-loop-pass l =
    IsDoneInPart chains_nested (map plain_chain l.chains.items) (map chain_by l.pass-iterator.rest.items) (map chain_by l.fn.passes.items)
