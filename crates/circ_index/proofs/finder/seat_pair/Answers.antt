use Rattle.circ_index.proofs.Seating.{pair_seated}
use Rattle.circ_index.proofs.finder.seat_pair.Goals as goal

pub returns-in-Ok : goal.returns-in-Ok
returns-in-Ok c = λ before h.
    pair_seated c.args.paths.now c.pair_seat-seat.new.paths c.pair_seat-turned.new.paths before c.args.seats.now.keys c.add.new.self.keys (c.args.left.now, c.args.right.now)
    c.pair_seat-seat.result c.pair_seat-turned.result c.pair_seat-seat.ensures.grows c.pair_seat-turned.ensures.grows (rw c.if-not-whole.false at h) c.pair_seat-seat.ensures.seat
    c.pair_seat-turned.ensures.seat c.in-Ok.ensures.added
