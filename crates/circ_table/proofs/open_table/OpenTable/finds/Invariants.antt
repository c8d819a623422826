use Rattle.circ_table.specs.Lines.{plain, roots}
use Rattle.circ_table.proofs.Finding.{IsUpTo, above_number}
use Rattle.circ_table.proofs.open_table.OpenTable.finds.Given as goal

abbrev pub invariant-loop-next : goal.invariant-loop-next
invariant-loop-next l = IsUpTo l.self-inside.chains l.key (roots l.self-inside.lines) (plain l.fn.root) l.next

abbrev pub decreases-loop-next : goal.decreases-loop-next
decreases-loop-next l = above_number l.next
