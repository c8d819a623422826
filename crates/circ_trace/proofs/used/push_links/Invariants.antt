use Rattle.std.proofs.Common.{◌≡◌, ◌++◌, drop}
use Rattle.circ_proof.specs.Plain.{plain_links}
use Rattle.circ_trace.specs.Used.{link_hypotheses}
use Rattle.circ_trace.proofs.used.push_links.Given as goal

abbrev pub invariant-loop-link : goal.invariant-loop-link
invariant-loop-link l =
    l.numbers.items ++ link_hypotheses (plain_links (drop l.link-index l.links)) ≡ l.fn.numbers.items ++ link_hypotheses (plain_links l.links)
