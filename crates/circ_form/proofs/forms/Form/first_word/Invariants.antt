use Rattle.std.proofs.Common.{◌≡◌, drop}
use Rattle.circ_form.specs.Form.{first_word}
use Rattle.circ_form.proofs.forms.Form.first_word.Given as goal

abbrev pub invariant-loop-piece : goal.invariant-loop-piece
invariant-loop-piece l = first_word (drop l.piece-index l.piece-items) ≡ first_word l.piece-items
