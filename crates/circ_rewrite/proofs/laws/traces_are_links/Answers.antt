use Rattle.circ_rewrite.specs.Due.{due_under}
use Rattle.circ_rewrite.proofs.Runs.{normal_form_reduces}
use Rattle.circ_rewrite.proofs.Linked.{are_links}
use Rattle.circ_rewrite.proofs.laws.traces_are_links.Goals as goal

pub returns : goal.returns
returns c = λ setting ok rules all plain fine budget left t u traces w e.
    let r = normal_form_reduces (due_under setting.theory.signature rules setting.assumptions) budget t u traces left e in
    are_links setting ok fine rules all plain traces t u w r.leads
