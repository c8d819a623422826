use Rattle.std.proofs.Common.{[], ◌∷◌, ◌++◌, Some, refl, codes}
use Rattle.circ_lexer.specs.declared.fault.LexFault.TheVariants.{NotAscii}
use Rattle.circ_lexer.specs.Cuts.{Cuts, blank, comment, bad}
use Rattle.circ_lexer.proofs.laws.which_byte_is_bad.Goals as goal

pub returns-clause-first : goal.returns-clause-first
returns-clause-first c = ([], bad 0 (codes "a") 7 (200 ∷ []) (record { plain = refl; no_comment = refl; bad = refl }))

pub returns-clause-in_comment : goal.returns-clause-in_comment
returns-clause-in_comment c =
    let last : Cuts 5 (200 ∷ []) [] (Some (NotAscii 5)) = bad 5 [] 200 [] (record { plain = refl; no_comment = refl; bad = refl }) in
    let feed : Cuts 4 (10 ∷ 200 ∷ []) [] (Some (NotAscii 5)) = blank 4 10 (200 ∷ []) [] _ refl last in
    ([], comment 0 (codes "---" ++ 7 ∷ []) (10 ∷ 200 ∷ []) [] _ (record { begins = refl; in_line = refl; whole = refl }) feed)
