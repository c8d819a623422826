use Rattle.circ_index.proofs.Seating.{left_seated}
use Rattle.circ_index.proofs.finder.seat_left.Goals as goal

pub returns-in-Ok : goal.returns-in-Ok
returns-in-Ok c = λ before h.
    left_seated c.args.paths.now c.left_seat-seat.new.paths before c.args.seats.now.keys c.add.new.self.keys c.args.left.now c.left_seat-seat.result c.left_seat-seat.ensures.grows
    (rw c.if-not-whole.false at h) c.left_seat-seat.ensures.seat c.in-Ok.ensures.added
