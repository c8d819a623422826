use Rattle.circ_show.proofs.Steps.{form_step}
use Rattle.circ_show.proofs.lines.put_form.Goals as goal

pub loop-piece-preserved : goal.loop-piece-preserved
loop-piece-preserved c =
    let l = c.loop-piece in
    form_step c.args.pieces.now l.piece-index c.piece-item.result l.out.items c.extend_from_slice.new.self.items _ c.loop-piece-test.true c.piece-item.is
    (rw c.piece_bytes.ensures at c.in_ok-extend_from_slice.ensures.items) l.invariant
