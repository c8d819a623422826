use Rattle.std.proofs.Common.{map, sym, ◌∙◌, ap}
use Rattle.circ_theory.specs.Pairs.{plain_pair}
use Rattle.circ_expansion.specs.Expand.{basis}
use Rattle.circ_tasks.specs.Tasks.{basis_of}
use Rattle.circ_tasks.proofs.Background.{block_hypotheses, length_assumed}
use Rattle.circ_expand.proofs.goal_steps.full_basis.Goals as goal

pub returns : goal.returns
returns c =
    let fr = c.args.frame.now in
    let d = c.args.call.now in
    ap (basis_of fr) c.in_ok-new.ensures.ok ∙ (λ i. basis (block_hypotheses fr d.goal.block i) (sym (length_assumed d.assumptions) i) (map plain_pair (c.new.ensures.items i)))
