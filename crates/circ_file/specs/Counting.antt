-- What a line adds to the counts.
use Rattle.std.specs.Prelude.{◌≡◌, ◌≤◌, ◌<◌, ℕ, ◌+◌, ◌-◌, suc}
use Rattle.circ_theory.specs.Limits.{condition_limit}
use Rattle.circ_line.specs.Line.{Line, head_line, certificate_line, goal_line, given_line, same_line, if_line, simplify_line, reduce_line, derive_line, cases_line, done_line}
use Rattle.circ_file.specs.declared.counts.Counts.{Counts}
use Rattle.circ_file.specs.declared.taken.Taken.{Taken}
use Rattle.circ_file.specs.declared.taken.Taken.TheVariants as taken

abbrev pub certificates_with : ℕ → Line → ℕ
certificates_with n certificate_line = n + 1
certificates_with n _ = n

abbrev pub steps_with : ℕ → Line → ℕ
steps_with n simplify_line = n + 1
steps_with n reduce_line = n + 1
steps_with n derive_line = n + 1
steps_with n (cases_line t) = n + 1
steps_with n done_line = n + 1
steps_with n _ = n

-- the version that a first line names
abbrev pub version_with : ℕ → Line → ℕ
version_with n (head_line v) = v
version_with n _ = n

-- how many conditions the last goal has
abbrev pub givens_with : ℕ → Line → ℕ
givens_with n (goal_line a b) = 0
givens_with n (given_line a b) = n + 1
givens_with n simplify_line = 0
givens_with n reduce_line = 0
givens_with n derive_line = 0
givens_with n (cases_line t) = 0
givens_with n done_line = 0
givens_with n _ = n

-- how many conditions of links are open
abbrev pub ifs_with : ℕ → Line → ℕ
ifs_with n if_line = suc n
ifs_with n same_line = n - 1
ifs_with n _ = n

-- one condition of the last goal more is counted, or it would pass the limit
abbrev pub CountsGiven : Taken → (old new : Counts) → Type 0
CountsGiven taken.Yes old new = (old.givens < condition_limit) × (new ≡ record old { givens = old.givens + 1 })
CountsGiven taken.Line old new = ⊥
CountsGiven taken.Limit old new = (condition_limit ≤ old.givens) × (new ≡ old)
