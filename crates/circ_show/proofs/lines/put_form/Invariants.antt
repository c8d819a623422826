use Rattle.std.proofs.Common.{◌≡◌, ◌++◌, drop}
use Rattle.circ_form.specs.Form.{text_of}
use Rattle.circ_show.proofs.lines.put_form.Given as goal

abbrev pub invariant-loop-piece : goal.invariant-loop-piece
invariant-loop-piece l = l.out.items ++ text_of (drop l.piece-index l.pieces) ≡ l.fn.out.items ++ text_of l.pieces
