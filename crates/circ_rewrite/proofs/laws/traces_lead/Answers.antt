use Rattle.circ_rewrite.specs.Due.{due_under}
use Rattle.circ_rewrite.proofs.Runs.{normal_form_reduces}
use Rattle.circ_rewrite.proofs.laws.traces_lead.Goals as goal

pub returns : goal.returns
returns c = λ sig rules assumptions budget left t u traces e. normal_form_reduces (due_under sig rules assumptions) budget t u traces left e
