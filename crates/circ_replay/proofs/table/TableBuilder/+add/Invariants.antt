use Rattle.std.proofs.Common.{◌≡◌, ◌+◌, ◌*◌, drop}
use Rattle.circ_term.specs.Tree.{trees_of, depth_of, depths_of}
use Rattle.circ_term.specs.Growing.{Grows}
use Rattle.circ_proof.specs.Table.{all_added}
use Rattle.circ_replay.proofs.table.TableBuilder.+add.Given as goal

abbrev pub decreases-add : goal.decreases-add
decreases-add l = 2 * depth_of l.term.now

abbrev pub decreases-add_all : goal.decreases-add_all
decreases-add_all l = 2 * depths_of (trees_of l.terms.now) + 1

abbrev pub invariant-add_all-loop-term : goal.invariant-add_all-loop-term
invariant-add_all-loop-term l = record {
  grows : Grows l.fn.self l.self;
  made : all_added l.self (trees_of (drop l.term-index l.terms)) ≡ all_added l.fn.self (trees_of l.terms);
}
