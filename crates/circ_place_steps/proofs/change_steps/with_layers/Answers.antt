use Rattle.std.proofs.Common.{Some, ap, ◌∙◌}
use Rattle.circ_expansion.specs.Expand.{Call as Use}
use Rattle.circ_tasks.specs.Tasks.{call_of, layers_in}
use Rattle.circ_place_steps.proofs.change_steps.with_layers.Goals as goal

pub returns : goal.returns
returns c = λ fr.
    ap (call_of fr) c.in_ok-new.ensures.ok
    ∙ (λ i. let y : Use = c.in_ok-next.ensures fr i in record y { whole = c.args.whole; along = Some (layers_in fr c.args.along) })
