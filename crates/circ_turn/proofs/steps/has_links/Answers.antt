use Rattle.std.proofs.Common.{sym, ◌∙◌}
use Rattle.circ_proof.specs.Plain.{plain_link}
use Rattle.circ_turn.proofs.Turning.{has_left}
use Rattle.circ_turn.proofs.steps.has_links.Goals as goal

pub returns-then-not-is_empty : goal.returns-then-not-is_empty
returns-then-not-is_empty c =
    sym (has_left plain_link plain_link c.args.chain.now.left.items c.args.chain.now.right.items (rw c.as_slice.ensures.value at (sym c.is_empty.ensures ∙ c.if-not-is_empty.true)))
