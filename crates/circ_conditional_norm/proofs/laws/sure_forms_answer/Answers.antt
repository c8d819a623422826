use Rattle.std.specs.Prelude.{◌-◌}
use Rattle.circ_conditional_norm.specs.Norm.{try_limit}
use Rattle.circ_conditional_norm.proofs.Sure.{sure_form_answers}
use Rattle.circ_conditional_norm.proofs.laws.sure_forms_answer.Goals as goal

pub returns : goal.returns
returns c = λ sig rules assumptions tries k t v ts f w h. sure_form_answers (try_limit - tries) sig rules assumptions k t v ts f w h
