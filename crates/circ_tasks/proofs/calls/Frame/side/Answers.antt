use Rattle.std.proofs.Common.{List, map, ap, ◌∙◌}
use Rattle.circ_theory.specs.Goal.{Goal}
use Rattle.circ_theory.specs.Pairs.{plain_pair}
use Rattle.circ_proof.specs.Link.{setting}
use Rattle.circ_tasks.specs.Settings.{goals_at}
use Rattle.circ_tasks.proofs.Background.{side_goals}
use Rattle.circ_tasks.proofs.calls.Frame.side.Goals as goal

pub returns-clause-setting : goal.returns-clause-setting
returns-clause-setting c =
    let fr = c.args.self.now in
    let b = c.args.basis.now in
    ap (λ ps. setting fr.theory.now fr.gamma.now (goals_at fr.book.now b.block) (map plain_pair ps)) c.as_slice.ensures.value
    ∙ ap (λ (gs : List Goal). setting fr.theory.now fr.gamma.now gs (map plain_pair b.assumptions.items)) (side_goals fr b.block)
