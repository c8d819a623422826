use Rattle.std.proofs.Common.{arith, refl}
use Rattle.circ_spelling.proofs.Bits.{low_tests, high_tests, far_has}
use Rattle.circ_spelling.proofs.ends.has.Goals as goal

pub returns-then-place-lt128 : goal.returns-then-place-lt128
returns-then-place-lt128 c = low_tests c.args.ends c.args.place c.if-place-lt128.true

pub returns-then-place-lt256 : goal.returns-then-place-lt256
returns-then-place-lt256 c = high_tests c.args.ends c.args.place (omega arith) c.if-place-lt256.true

pub returns : goal.returns
returns c = (λ _. far_has c.args.ends c.args.place (omega arith), λ _. refl)
