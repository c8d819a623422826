use Rattle.std.proofs.Common.{◌≡◌, drop}
use Rattle.std.specs.List.{list_any}
use Rattle.circ_conditional_search.specs.Search.{link_is_deep, chains_are_deep}
use Rattle.circ_proof.specs.Plain.{plain_links, plain_chains}
use Rattle.circ_block.proofs.deep.+link_is_deep.Given as goal

abbrev pub invariant-links_are_deep-loop-link : goal.invariant-links_are_deep-loop-link
invariant-links_are_deep-loop-link l = list_any (link_is_deep l.theory l.hyps) (plain_links (drop l.link-index l.links)) ≡ list_any (link_is_deep l.theory l.hyps) (plain_links l.links)

abbrev pub invariant-chains_are_deep-loop-chain : goal.invariant-chains_are_deep-loop-chain
invariant-chains_are_deep-loop-chain l = chains_are_deep l.theory l.hyps (plain_chains (drop l.chain-index l.chains)) ≡ chains_are_deep l.theory l.hyps (plain_chains l.chains)
