use Rattle.std.proofs.Common.{◌<◌, ◌↔◌, ◌+◌, ◌*◌, length}
use Rattle.circ_term.specs.Growing.{Grows}
use Rattle.circ_term.specs.Tree.{Tree}
use Rattle.circ_proof.specs.Plain.{plain_link, plain_links, plain_chain, plain_chains}
use Rattle.circ_proof.specs.Nesting.{link_nesting, links_nesting, chain_nesting, chains_nesting}
use Rattle.circ_proof.specs.Runs.{Runs}
use Rattle.circ_proof.specs.Link.{Leads}
use Rattle.circ_nodes.specs.Named.{tree_at}
use Rattle.circ_replay.proofs.Running.{links_from}
use Rattle.circ_shared.specs.Settings.{setting_at, table_at}
use Rattle.circ_shared.proofs.Meets.{MeetFrom}
use Rattle.circ_shared.proofs.usage.Sources.+follow.Given as goal

abbrev pub invariant-follow_all-loop-link : goal.invariant-follow_all-loop-link
invariant-follow_all-loop-link l = record {
  grows : Grows l.fn.nodes l.nodes;
  there : l.here < length l.nodes;
  runs : (u : Tree) → Runs (Leads (setting_at l.fn.nodes l.self l.assumptions)) (links_from (table_at l.fn.nodes l.self) l.links l.link-index) (tree_at l.nodes l.here) u
      ↔ Runs (Leads (setting_at l.fn.nodes l.self l.assumptions)) (links_from (table_at l.fn.nodes l.self) l.links 0) (tree_at l.fn.nodes l.term) u;
}

abbrev pub invariant-all_meet-loop-i : goal.invariant-all_meet-loop-i
invariant-all_meet-loop-i l = record {
  grows : Grows l.fn.nodes l.nodes;
  rest : MeetFrom (setting_at l.fn.nodes l.self l.assumptions) (table_at l.fn.nodes l.self) l.fn.nodes l.pairs l.chains l.i
      ↔ MeetFrom (setting_at l.fn.nodes l.self l.assumptions) (table_at l.fn.nodes l.self) l.fn.nodes l.pairs l.chains 0;
}

abbrev pub decreases-all_meet : goal.decreases-all_meet
decreases-all_meet l = 5 * chains_nesting (plain_chains l.chains.now)

abbrev pub decreases-follow : goal.decreases-follow
decreases-follow l = 5 * link_nesting (plain_link l.link.now) + 1

abbrev pub decreases-follow_all : goal.decreases-follow_all
decreases-follow_all l = 5 * links_nesting (plain_links l.links.now) + 2

abbrev pub decreases-follow_chain : goal.decreases-follow_chain
decreases-follow_chain l = 5 * chain_nesting (plain_chain l.chain.now) + 3

abbrev pub decreases-meets : goal.decreases-meets
decreases-meets l = 5 * chain_nesting (plain_chain l.chain.now) + 4
