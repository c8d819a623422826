use Rattle.std.proofs.Common.{◌≡◌, ◌++◌, drop}
use Rattle.std.specs.Prelude.{flat_map}
use Rattle.circ_proof.specs.Plain.{plain_link, plain_links, plain_chain, plain_chains}
use Rattle.circ_proof.specs.Link.{terms_of, chains_terms}
use Rattle.circ_entering.specs.Naming.{links_terms, chain_terms}
use Rattle.circ_entering.proofs.naming.+add_link.Given as goal

abbrev pub invariant-add_links-loop-link : goal.invariant-add_links-loop-link
invariant-add_links-loop-link l =
    l.lines.items ++ flat_map (λ x. terms_of (plain_link x)) (drop l.link-index l.links) ≡ l.initial.lines.items ++ links_terms (plain_links l.links)

abbrev pub invariant-add_chains-loop-chain : goal.invariant-add_chains-loop-chain
invariant-add_chains-loop-chain l =
    l.lines.items ++ flat_map (λ c. chain_terms (plain_chain c)) (drop l.chain-index l.chains) ≡ l.initial.lines.items ++ chains_terms (plain_chains l.chains)
