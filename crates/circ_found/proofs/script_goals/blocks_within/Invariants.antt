use Rattle.std.proofs.Common.{drop, map}
use Rattle.circ_found.specs.Searchable.{AreWithin}
use Rattle.circ_found.proofs.script_goals.blocks_within.Given as goal

abbrev pub invariant-loop-block : goal.invariant-loop-block
invariant-loop-block l = AreWithin (map (λ b. b.items) (drop l.block-index l.blocks)) → AreWithin (map (λ b. b.items) l.blocks)
