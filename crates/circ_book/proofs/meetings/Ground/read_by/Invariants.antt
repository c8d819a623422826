use Rattle.std.proofs.Common.{◌≡◌, ◌≤◌, ◌+◌, List, [], map, drop, length}
use Rattle.std.specs.List.{AllByRecursion}
use Rattle.circ_theory.specs.Goal.{Goal}
use Rattle.circ_proof.specs.Goals.{AreSortedGoals}
use Rattle.circ_proof.specs.PlainProof.{plain_proof, plain_block}
use Rattle.circ_proof.specs.Proof.{IsBlockFor, IsPlainBlock, steps_in}
use Rattle.circ_proof.specs.Accepted.{BlocksDerive}
use Rattle.circ_entering.specs.Work.{state_of, table_of, IsWork}
use Rattle.circ_book.proofs.Reading.{ReadsTo}
use Rattle.circ_book.proofs.meetings.Ground.read_by.Given as goal

abbrev pub invariant-loop-block : goal.invariant-loop-block
invariant-loop-block l =
    let th = l.self.theory.now in
    let p = plain_proof l.proof in
    let bs = map plain_block (drop l.block-index l.proof.blocks.items) in
    record {
      work : IsWork th l.work;
      terms : table_of l.work ≡ l.self.table.now;
      no_goal : (state_of l.work).goals ≡ [];
      reads : ReadsTo th p l.book.nodes.items l.book.goals.items l.book.blocks.items (state_of l.work).hypotheses bs;
      derive : (dss : List (List Goal)) × BlocksDerive th p (state_of l.work).hypotheses bs dss;
      sorted : AreSortedGoals th (state_of l.work).hypotheses;
      blocks : AllByRecursion (IsBlockFor th p.table) bs;
      plain : AllByRecursion IsPlainBlock bs;
      count : length l.book.blocks.items ≡ l.block-index;
      room : length l.book.nodes.items + steps_in bs ≤ steps_in p.blocks;
    }
