use Rattle.circ_read.specs.Failing.{left_out, no_shape}
use Rattle.circ_read.proofs.statement.shape.Goals as goal

pub returns-in_ok-word-in-Err-LeftOut : goal.returns-in_ok-word-in-Err-LeftOut
returns-in_ok-word-in-Err-LeftOut c =
    let h = rw c.in-Err-LeftOut.field-0-is at c.in-Err-LeftOut.ensures in
    rw (c.because.ensures, c.in_ok-word-in-Err-LeftOut.ensures, c.word.ensures) (left_out _ h.1)

pub returns-in-Err-Shape : goal.returns-in-Err-Shape
returns-in-Err-Shape c = let h = rw c.in-Err-Shape.field-0-is at c.in-Err-Shape.ensures in rw c.because-in-Err-Shape.ensures (no_shape h.1 h.0)
