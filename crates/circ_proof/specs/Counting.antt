-- How many whys there are.
use Rattle.std.specs.Prelude.{ℕ, ◌+◌}
use Rattle.circ_proof.specs.Plain.{WhysOf, no_why, more_whys}

abbrev pub why_count : {T : Type 0} → WhysOf T → ℕ
why_count no_why = 0
why_count (more_whys w ws) = why_count ws + 1
