use Rattle.std.proofs.Common.{◌+◌, ◌*◌}
use Rattle.circ_proof.specs.Plain.{plain_link, plain_links, plain_chain, plain_chains}
use Rattle.circ_proof.specs.Nesting.{link_nesting, links_nesting, chain_nesting, chains_nesting}
use Rattle.circ_grammar.specs.Grammar.{lines_of, left_lines, right_lines, conds_lines}
use Rattle.circ_file.proofs.Written.{IsLeft}
use Rattle.circ_file.proofs.encoding.+link.Given as goal

abbrev pub decreases-put_chains : goal.decreases-put_chains
decreases-put_chains l = 4 * chains_nesting (plain_chains l.chains.now)

abbrev pub decreases-put_conds : goal.decreases-put_conds
decreases-put_conds l = 4 * link_nesting (plain_link l.link.now) + 1

abbrev pub decreases-put_left_links : goal.decreases-put_left_links
decreases-put_left_links l = 4 * links_nesting (plain_links l.links.now) + 2

abbrev pub decreases-put_right_links : goal.decreases-put_right_links
decreases-put_right_links l = 4 * links_nesting (plain_links l.links.now) + 2

abbrev pub decreases-put_chain : goal.decreases-put_chain
decreases-put_chain l = 4 * chain_nesting (plain_chain l.chain.now) + 3

abbrev pub invariant-put_left_links-loop-link : goal.invariant-put_left_links-loop-link
invariant-put_left_links-loop-link l = IsLeft (λ xs. lines_of left_lines (plain_links xs)) l.fn.out.items l.out.items l.links l.link-index

abbrev pub invariant-put_right_links-loop-link : goal.invariant-put_right_links-loop-link
invariant-put_right_links-loop-link l = IsLeft (λ xs. lines_of right_lines (plain_links xs)) l.fn.out.items l.out.items l.links l.link-index

abbrev pub invariant-put_chains-loop-chain : goal.invariant-put_chains-loop-chain
invariant-put_chains-loop-chain l = IsLeft (λ xs. conds_lines (plain_chains xs)) l.fn.out.items l.out.items l.chains l.chain-index
