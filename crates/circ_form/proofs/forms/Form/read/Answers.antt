use Rattle.std.proofs.Common.{ap, ◌∙◌}
use Rattle.circ_form.specs.Form.{pieces_of, form_fault}
use Rattle.circ_form.proofs.Cutting.{text_of-pieces_of, no_fault}
use Rattle.circ_form.proofs.forms.Form.read.Goals as goal

pub invariant_of-result : goal.invariant_of-result
invariant_of-result c =
    let t = c.args.text.now in
    let spelled = text_of-pieces_of t in
    rw c.in_ok-pieces.ensures (record {
      cut = ap pieces_of spelled;
      sound = ap form_fault spelled ∙ no_fault t _ _ (rw (c.as_slice.ensures.value, c.in_ok-pieces.ensures) at c.has_word.ensures) c.if-not-has_word.false
          (rw (c.as_slice-2.ensures.value, c.in_ok-pieces.ensures) at c.has_bad_word.ensures) c.if-has_bad_word.false;
    })
