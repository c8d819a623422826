-- The numbers of the answers.
use Rattle.std.specs.Prelude.{ℕ}
use Rattle.circ_status.specs.declared.status.Status.{Status}
use Rattle.circ_status.specs.declared.status.Status.TheVariants.{Ok, Refused, Unreadable, Usage, TooLong, Stuck, Spent, ReadFault, WriteFault, Memory, TooBig}
use Rattle.circ_status.specs.declared.status.Status.TheVariants.{TooDeep, Differ, Expansion, Misfit}

abbrev pub number_of : Status → ℕ
number_of Ok = 0
number_of (Refused n) = 1
number_of (Unreadable f p c) = 2
number_of Usage = 3
number_of (TooLong f n) = 4
number_of (Stuck b g) = 5
number_of (Spent r d s) = 6
number_of (ReadFault n) = 7
number_of (WriteFault n) = 8
number_of Memory = 9
number_of (TooBig n) = 10
number_of (TooDeep n) = 10
number_of (Differ n) = 11
number_of (Expansion n) = 12
number_of (Misfit n) = 13
