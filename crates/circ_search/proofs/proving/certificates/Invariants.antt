use Rattle.std.proofs.Common.{◌≡◌, ◌++◌, map}
use Rattle.circ_rewrite.specs.Links.{link_of}
use Rattle.circ_contexts.specs.Candidates.{plain_lists}
use Rattle.circ_numbering.specs.Plain.{plain_term_certificates}
use Rattle.circ_search.proofs.proving.certificates.Given as goal

abbrev pub invariant-loop-links : goal.invariant-loop-links
invariant-loop-links l =
    plain_term_certificates l.certificates.items ++ map (map link_of) (plain_lists l.links-iterator.rest.items) ≡ map (map link_of) (plain_lists l.fn.traces.items)
