use Rattle.std.proofs.Common.{arith}
use Rattle.circ_index.specs.Keys.{left_key}
use Rattle.circ_index.specs.Paths.{key_of_left}
use Rattle.circ_index.proofs.Seeking.{seats_length}
use Rattle.circ_index.proofs.finder.Finder.add_left.Goals as goal

pub seat_left-self-requires : goal.seat_left-self-requires
seat_left-self-requires c = λ whole.
    let x = c.args.self.now in
    omega (arith, seats_length (key_of_left x.paths) left_key c.requires.0 x.seats.keys (rw whole at c.requires.1.seats), c.requires.2)
