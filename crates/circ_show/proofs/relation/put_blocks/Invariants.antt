use Rattle.std.proofs.Common.{◌≡◌, ◌+◌, ◌++◌, map, drop}
use Rattle.circ_show.specs.GoalsText.{relation_lines}
use Rattle.circ_show.proofs.relation.put_blocks.Given as goal

abbrev pub invariant-loop-done : goal.invariant-loop-done
invariant-loop-done l =
    l.out.items ++ relation_lines l.theory.signature (l.done + 1) (map (λ b. b.items) (drop l.done l.blocks))
    ≡ l.fn.out.items ++ relation_lines l.theory.signature 1 (map (λ b. b.items) l.blocks)
