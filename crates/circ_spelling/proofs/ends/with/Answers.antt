use Rattle.std.proofs.Common.{arith, refl}
use Rattle.std.specs.Int.{w128}
use Rattle.std.proofs.lemmas.Nat.Bits.{bit_at_set_same}
use Rattle.circ_spelling.proofs.Bits.{low_has, high_has, far_has, low_keeps, high_keeps}
use Rattle.circ_spelling.proofs.ends.with.Goals as goal

pub returns-then-place-lt128 : goal.returns-then-place-lt128
returns-then-place-lt128 c = record {
  here = low_has _ c.args.place c.if-place-lt128.true (bit_at_set_same w128 c.args.ends.low c.args.place c.if-place-lt128.true);
  stay = low_keeps c.args.ends _ _ refl refl;
}

pub returns-then-place-lt256 : goal.returns-then-place-lt256
returns-then-place-lt256 c = record {
  here = high_has _ c.args.place (omega arith) (bit_at_set_same w128 c.args.ends.high _ (omega arith));
  stay = high_keeps c.args.ends _ _ refl refl;
}

pub returns : goal.returns
returns c = record { here = far_has c.args.ends c.args.place (omega arith); stay = λ m h. h }
