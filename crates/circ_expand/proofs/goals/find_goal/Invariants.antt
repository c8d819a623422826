-- What is left of the number is the goal's in the blocks that are left.
use Rattle.std.proofs.Common.{◌≡◌, map, drop}
use Rattle.std.specs.List.{slice_get}
use Rattle.circ_proof.specs.PlainProof.{plain_block}
use Rattle.circ_expansion.specs.Goals.{all_goals}
use Rattle.circ_expand.proofs.goals.find_goal.Given as goal

abbrev pub invariant-loop-block : goal.invariant-loop-block
invariant-loop-block l =
    slice_get (all_goals (map plain_block (drop l.block-index l.blocks))) l.left ≡ slice_get (all_goals (map plain_block l.blocks)) l.fn.number
