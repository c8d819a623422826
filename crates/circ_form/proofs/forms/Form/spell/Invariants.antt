use Rattle.std.proofs.Common.{◌≡◌, ◌++◌, drop}
use Rattle.circ_form.specs.Form.{text_of}
use Rattle.circ_form.proofs.forms.Form.spell.Given as goal

abbrev pub invariant-loop-piece : goal.invariant-loop-piece
invariant-loop-piece l = l.bytes.items ++ text_of (drop l.piece-index l.piece-items) ≡ text_of l.piece-items
