use Rattle.std.proofs.Common.{◌≡◌, ◌++◌, length}
use Rattle.circ_book.specs.Book.{kept_in}
use Rattle.circ_book.proofs.book.put_last.Given as goal

abbrev pub invariant-loop-node : goal.invariant-loop-node
invariant-loop-node l = l.goals.items ++ kept_in l.block l.nodes.items ≡ l.initial.goals.items ++ kept_in l.block l.initial.nodes.items

abbrev pub decreases-loop-node : goal.decreases-loop-node
decreases-loop-node l = length l.nodes.items
