use Rattle.std.proofs.Common.{◌≡◌, ◌<◌, ◌^◌, drop}
use Rattle.circ_auto.specs.Reading.{digits_on}
use Rattle.circ_auto.proofs.numbers.digits_on.Given as goal

abbrev pub invariant-loop-b : goal.invariant-loop-b
invariant-loop-b l = record { same : digits_on l.number (drop l.b-index l.bytes) ≡ digits_on l.start l.bytes; small : l.number < 2 ^ 32 }
