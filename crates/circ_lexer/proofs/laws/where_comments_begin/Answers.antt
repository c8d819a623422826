use Rattle.std.proofs.Common.{[], None, refl, codes}
use Rattle.circ_lexer.specs.Cuts.{Cuts, end, blank, comment, special, run, IsRun}
use Rattle.circ_lexer.proofs.laws.where_comments_begin.Goals as goal

pub returns-clause-after_special : goal.returns-clause-after_special
returns-clause-after_special c =
    let last : Cuts 2 (codes "---)") [] None = comment 2 (codes "---)") [] [] None (record { begins = refl; in_line = refl; whole = refl }) (end 6) in
    let run_of : IsRun (codes "a") (codes "(---)") = record { some = λ e. cc; plain = refl; no_comment = refl; whole = refl } in
    (_, (run 0 (codes "a") (codes "(---)") _ None run_of (special 1 40 (codes "---)") _ None refl last), refl))

pub returns-clause-inside : goal.returns-clause-inside
returns-clause-inside c =
    let last : Cuts 6 (codes "***") [] None = comment 6 (codes "***") [] [] None (record { begins = refl; in_line = refl; whole = refl }) (end 9) in
    let run_of : IsRun (codes "a---b") (codes " ***") = record { some = λ e. cc; plain = refl; no_comment = refl; whole = refl } in
    (_, (run 0 (codes "a---b") (codes " ***") _ None run_of (blank 5 32 (codes "***") _ None refl last), refl))
