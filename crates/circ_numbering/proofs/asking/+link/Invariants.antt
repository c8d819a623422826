use Rattle.std.proofs.Common.{◌+◌, ◌*◌, drop}
use Rattle.circ_proof.specs.Plain.{plain_link, plain_links, plain_chain, plain_chains, map_link, map_chain}
use Rattle.circ_proof.specs.Link.{terms_of}
use Rattle.circ_proof.specs.Nesting.{link_nesting, links_nesting, chain_nesting, chains_nesting}
use Rattle.circ_proof.specs.Table.{number_in}
use Rattle.circ_plain_search.specs.Numbering.{chain_terms}
use Rattle.circ_numbering.proofs.Walks.{IsOnItsWay}
use Rattle.circ_numbering.proofs.asking.+link.Given as goal

abbrev pub decreases-links : goal.decreases-links
decreases-links l = 5 * links_nesting (plain_links l.recorded.now) + 3

abbrev pub decreases-link : goal.decreases-link
decreases-link l = 5 * link_nesting (plain_link l.recorded.now) + 2

abbrev pub decreases-numbered_parts : goal.decreases-numbered_parts
decreases-numbered_parts l = 5 * chains_nesting (plain_chains l.conds.now) + 1

abbrev pub decreases-chains : goal.decreases-chains
decreases-chains l = 5 * chains_nesting (plain_chains l.recorded.now)

abbrev pub decreases-chain : goal.decreases-chain
decreases-chain l = 5 * chain_nesting (plain_chain l.recorded.now) + 4

abbrev pub invariant-links-loop-one : goal.invariant-links-loop-one
invariant-links-loop-one l =
    IsOnItsWay (λ x. terms_of (plain_link x)) plain_link (λ table x. map_link (number_in table) (plain_link x)) l.initial.table l.recorded
    (drop l.one-index l.recorded) l.table l.links.items

abbrev pub invariant-chains-loop-one : goal.invariant-chains-loop-one
invariant-chains-loop-one l =
    IsOnItsWay (λ x. chain_terms (plain_chain x)) plain_chain (λ table x. map_chain (number_in table) (plain_chain x)) l.initial.table l.recorded
    (drop l.one-index l.recorded) l.table l.chains.items
