use Rattle.std.proofs.Common.{ap, length, arith}
use Rattle.std.proofs.lemmas.List.{length-map}
use Rattle.circ_index.specs.Finding.{both_ways}
use Rattle.circ_index.specs.Keys.{pair_key}
use Rattle.circ_index.specs.Paths.{key_of_pair}
use Rattle.circ_index.proofs.Pairing.{length-both_ways, pairs_more}
use Rattle.circ_index.proofs.Seeking.{seats_length}
use Rattle.circ_index.proofs.finder.Finder.add_pair.Goals as goal

pub add-requires : goal.add-requires
add-requires c =
    omega (arith, ap length c.requires.1.keys, length-map (both_ways c.requires.0) pair_key, length-both_ways c.requires.0, c.requires.2)

pub seat_pair-self-requires : goal.seat_pair-self-requires
seat_pair-self-requires c = λ whole.
    let x = c.args.self.now in
    omega (
      arith,
      seats_length (key_of_pair x.paths) pair_key (both_ways c.requires.0) x.seats.keys (rw whole at c.requires.1.seats),
      length-both_ways c.requires.0,
      c.requires.2,
    )

pub returns-clause-added : goal.returns-clause-added
returns-clause-added c = λ pairs h. record {
  keys =
      pairs_more pairs c.args.self.now.rows.keys c.add.new.self.keys c.pair_key.result c.pair_key-2.result (c.args.left.now, c.args.right.now) h.keys c.pair_key.ensures
      c.pair_key-2.ensures c.in_ok-add.ensures.added;
  seats = c.seat_pair-self.ensures pairs h.seats;
}
