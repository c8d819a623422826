use Rattle.std.proofs.Common.{◌∙◌}
use Rattle.circ_top.proofs.Matching.{no_fault, rows_are, a_fault}
use Rattle.circ_top.proofs.words.matches.Goals as goal

pub returns-in-Ok : goal.returns-in-Ok
returns-in-Ok c =
    let a = c.in_ok-definition.ensures in
    (no_fault _ _ c.try_get_matches_from.result c.in-Ok.matches a c.in-Ok.is c.try_get_matches_from.ensures.kinds, rows_are _ _ c.in-Ok.matches a c.in-Ok.ensures.matches)

pub returns : goal.returns
returns c =
    let a = c.in_ok-definition.ensures in
    a_fault _ _ c.try_get_matches_from.result c.in-Err.error a c.in-Err.is c.try_get_matches_from.ensures.kinds (λ k. c.in_default.not-OutOfMemory (c.kind.ensures ∙ k))
