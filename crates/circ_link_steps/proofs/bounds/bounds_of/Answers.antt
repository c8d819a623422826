use Rattle.std.proofs.Common.{◌++◌, [], ◌∷◌, List, map, ap, sym, ◌∙◌, append_assoc, append-nil}
use Rattle.std.proofs.lemmas.List.{map-append}
use Rattle.circ_term.specs.Subst.{Bound}
use Rattle.circ_expansion.specs.Pieces.{bounds_by}
use Rattle.circ_written.specs.Rows.{given_bound}
use Rattle.circ_uses.specs.Valuations.{by_of, variable_of}
use Rattle.circ_written.specs.declared.rows.Given.{Given}
use Rattle.circ_link_steps.proofs.bounds.bounds_of.Goals as goal

pub loop-variable-preserved : goal.loop-variable-preserved
loop-variable-preserved c =
    let σ = by_of c.args.by.now in
    let made : List Given = c.loop-variable.bounds.items in
    let g : Given = c.in_ok-one.one in
    let rest : List Bound = bounds_by σ (map variable_of c.next.new.self) in
    ap (λ gs. map given_bound gs ++ rest) c.in_ok-push.ensures.items ∙ ap (λ bs. bs ++ rest) (map-append given_bound made (g ∷ []))
    ∙ append_assoc (map given_bound made) (given_bound g ∷ []) rest ∙ ap (λ b. map given_bound made ++ b ∷ rest) c.in_ok-one.ensures
    ∙ ap (λ vs. map given_bound made ++ bounds_by σ (map variable_of vs)) (sym c.in-Some.ensures.steps) ∙ c.loop-variable.invariant

pub loop-variable-init : goal.loop-variable-init
loop-variable-init c =
    let σ = by_of c.args.by.now in
    ap (λ gs. map given_bound gs ++ bounds_by σ (map variable_of c.iter-rest.result)) c.new-bounds.ensures.items
    ∙ ap (λ ks. bounds_by σ (map variable_of ks)) c.iter-rest.ensures.rest ∙ ap (bounds_by σ) c.in_ok-variables.ensures

pub returns : goal.returns
returns c =
    let σ = by_of c.args.by.now in
    let made : List Bound = map given_bound c.loop-variable.bounds.items in
    sym (append-nil made) ∙ ap (λ vs. made ++ bounds_by σ (map variable_of vs)) (sym c.in_default.ensures.steps.0) ∙ c.loop-variable.invariant
