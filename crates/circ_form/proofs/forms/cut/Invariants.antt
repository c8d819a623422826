use Rattle.std.proofs.Common.{◌≡◌, ◌++◌, length}
use Rattle.circ_form.specs.Form.{pieces_of}
use Rattle.circ_form.proofs.forms.cut.Given as goal

abbrev pub invariant-loop-rest : goal.invariant-loop-rest
invariant-loop-rest l = l.pieces.items ++ pieces_of l.rest ≡ pieces_of l.text

abbrev pub decreases-loop-rest : goal.decreases-loop-rest
decreases-loop-rest l = length l.rest
