-- Goals over streams of bits and over gates, whose equations have conditions, that try the definition, with what is found of them.
use Rattle.std.specs.Prelude.{ℕ, List, [], ◌∷◌}
use Rattle.circ_theory.specs.Theory.{goal}
use Rattle.circ_theory.specs.Goal.{Goal}
use Rattle.circ_entry.specs.Entries.{Written, written_entry}
use Rattle.circ_plain_search.specs.Examples.{bits, zero_bit, one_bit, zeros, ones, zip}
use Rattle.circ_conditional_search.specs.Examples.{gates, gate}
use Rattle.circ_refute.specs.PlainRefutation.{Conclusion, refutation}

-- two streams whose second bits differ
abbrev pub second_bits : Goal
second_bits = goal [] (zip zeros ones) (zip zeros zeros)

abbrev pub equal_zeros : Goal
equal_zeros = goal [] zeros zeros

-- the tail, and then its head
abbrev pub second_bit : List Written
second_bit = written_entry 1 [] ∷ written_entry 0 [] ∷ []

abbrev pub refuted_in_bits : (derives rewrites : ℕ) → Goal → Conclusion
refuted_in_bits d n g = refutation bits d n g

-- a gate before a stream of ones: one that lets it through, and one that is shut
abbrev pub open_gate : Goal
open_gate = goal [] (gate one_bit ones) zeros

abbrev pub shut_gate : Goal
shut_gate = goal [] (gate zero_bit ones) zeros

abbrev pub first_bit : List Written
first_bit = written_entry 0 [] ∷ []

abbrev pub refuted_in_gates : (derives rewrites : ℕ) → Goal → Conclusion
refuted_in_gates d n g = refutation gates d n g
