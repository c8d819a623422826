use Rattle.std.specs.Prelude.{[]}
use Rattle.circ_conditional_norm.specs.Norm.{inner_norm}
use Rattle.circ_conditional_norm.specs.Tries.{due_trying}
use Rattle.circ_conditional_norm.proofs.Falling.{due_leaves, inner_falls}
use Rattle.circ_conditional_norm.proofs.Within.{whole_run}
use Rattle.circ_conditional_norm.proofs.laws.whole_terms_are_within.Goals as goal

pub returns : goal.returns
returns c = λ sig rules assumptions room k t.
    whole_run (due_trying (inner_norm room sig rules assumptions) sig rules assumptions)
    (due_leaves (inner_norm room sig rules assumptions) (inner_falls room sig rules assumptions) sig rules assumptions) k [] t [] k
