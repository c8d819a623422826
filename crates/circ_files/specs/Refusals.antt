-- The texts of refusals, by what the places of the files are.
use Rattle.std.specs.Prelude.{ℕ, List, [], ◌==◌, codes, if◌then◌else◌}
use Rattle.circ_status.specs.Texts.{refused_text, unreadable_text, too_long_text, spent_text, too_big_text, too_deep_text, long_expansion_text, misfit_text}
use Rattle.circ_status.specs.declared.status.Status.{Status}
use Rattle.circ_status.specs.declared.status.Status.TheVariants as status

-- the places of each file are statements
abbrev pub statement_places : (file : ℕ) → List ℕ
statement_places file = codes ", statement "

-- those of a proof, which is file 2, are lines
abbrev pub proof_places : (file : ℕ) → List ℕ
proof_places file = if file == 2 then codes ", line " else codes ", statement "

-- the text of a refusal; the other answers have texts of their own, or none
abbrev pub text_of_refusal : (places : ℕ → List ℕ) → Status → List ℕ
text_of_refusal places (status.Refused n) = refused_text n
text_of_refusal places (status.Unreadable file place cause) = unreadable_text (places file) file place cause
text_of_refusal places (status.TooLong file n) = too_long_text file
text_of_refusal places (status.Spent r d s) = spent_text r d s
text_of_refusal places (status.TooBig n) = too_big_text n
text_of_refusal places (status.TooDeep n) = too_deep_text n
text_of_refusal places (status.Expansion n) = long_expansion_text
text_of_refusal places (status.Misfit n) = misfit_text n
text_of_refusal places _ = []
