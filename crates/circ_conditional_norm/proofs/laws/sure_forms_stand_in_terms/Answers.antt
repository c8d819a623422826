use Rattle.std.proofs.Common.{[], ap, ◌∙◌, sym, append-nil, refl}
use Rattle.circ_conditional_norm.specs.Norm.{inner_norm, run_from}
use Rattle.circ_conditional_norm.specs.Tries.{due_trying}
use Rattle.circ_conditional_norm.specs.Sure.{reached}
use Rattle.circ_conditional_norm.proofs.Sure.{run_sure, not_reached, sure_reached}
use Rattle.circ_conditional_norm.proofs.laws.sure_forms_stand_in_terms.Goals as goal

pub returns : goal.returns
returns c = λ sig rules assumptions room big deep most k p w t v x before ts f there put small dw dp h g.
    ap (λ q. run_from (due_trying (inner_norm room sig rules assumptions) sig rules assumptions) most q w before k) (sym (append-nil p))
    ∙ run_sure (reached sig rules assumptions) (due_trying (inner_norm room sig rules assumptions) sig rules assumptions)
    (not_reached (inner_norm room sig rules assumptions) sig rules assumptions) (sure_reached (inner_norm room sig rules assumptions) sig rules assumptions) big deep ts most k p [] w t t v x
    before there refl f.reduces.0 f.reduces.1 f.sure small dw dp put h g
