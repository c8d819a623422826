use Rattle.std.proofs.Common.{◌≡◌, ◌≤◌, ◌+◌, ◌++◌, List, length, map, drop}
use Rattle.circ_term.specs.Tree.{Tree}
use Rattle.circ_theory.specs.Rewriting.{named}
use Rattle.circ_proof.specs.PlainProof.{plain_steps}
use Rattle.circ_proof.specs.Rules.{map_step}
use Rattle.circ_book.specs.Histories.{told_at, told_from, meeting_of, AreNodes, Adds}
use Rattle.circ_book.specs.declared.histories.Met.{Met}
use Rattle.circ_book.proofs.histories.tell.Given as goal

abbrev pub invariant-loop-one : goal.invariant-loop-one
invariant-loop-one l = record {
  adds : Adds l.initial.nodes.items l.nodes.items;
  nodes : AreNodes l.nodes.items l.told;
  long : length l.nodes.items + length l.met.items ≤ length l.initial.nodes.items + length l.initial.met.items;
  told : (rest : List Met) × (l.met.items ++ rest ≡ l.initial.met.items) × ((table : List Tree) → told_at table l.nodes.items l.told
      ≡ told_from (map meeting_of rest) (drop (length l.met.items) (map (map_step (named table)) (plain_steps l.steps))));
}

abbrev pub decreases-loop-one : goal.decreases-loop-one
decreases-loop-one l = length l.met.items
