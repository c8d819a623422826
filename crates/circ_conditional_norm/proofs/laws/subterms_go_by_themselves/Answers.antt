use Rattle.circ_conditional_norm.specs.Norm.{inner_norm}
use Rattle.circ_conditional_norm.specs.Tries.{due_trying}
use Rattle.circ_conditional_norm.proofs.Falling.{due_leaves, inner_falls}
use Rattle.circ_conditional_norm.proofs.Within.{in_place}
use Rattle.circ_conditional_norm.proofs.laws.subterms_go_by_themselves.Goals as goal

pub returns : goal.returns
returns c = λ sig rules assumptions room most k B b p r w t before us nodes levels rest there size small shallow h.
    in_place (due_trying (inner_norm room sig rules assumptions) sig rules assumptions)
    (due_leaves (inner_norm room sig rules assumptions) (inner_falls room sig rules assumptions) sig rules assumptions) B b p nodes levels rest
    most r w t before us k h (record { there = there; room = size; small = small; shallow = shallow })
