use Rattle.std.proofs.Common.{◌≡◌, ◌+◌, ◌++◌, [], ◌∷◌, List, drop, map, ap, sym, ◌∙◌, append_assoc}
use Rattle.std.proofs.lemmas.List.{map-append}
use Rattle.circ_term.proofs.Within.{drop_read}
use Rattle.circ_term.specs.Subst.{Bound}
use Rattle.circ_written.specs.Rows.{given_bound}
use Rattle.circ_written.specs.declared.rows.Given.{Given}
use Rattle.circ_written.proofs.Opened.{bound_as}
use Rattle.circ_written.proofs.writing.share_given.Goals as goal

pub loop-one-preserved : goal.loop-one-preserved
loop-one-preserved c =
    let given = c.args.given.now in
    let i = c.loop-one.one-index in
    let x = c.one-item.result in
    let read = drop_read given i x c.loop-one-test.true c.one-item.is in
    let made : List Given = c.loop-one.copy.items in
    let rest : List Bound = map given_bound (drop (i + 1) given) in
    let y : Given = record { number = x.number; sort = x.sort; term = c.in_ok-term.term } in
    let same : given_bound y ≡ given_bound x = ap (bound_as x.number x.sort) c.in_ok-term.ensures.same in
    ap (λ gs. map given_bound gs ++ rest) c.in_ok-push.ensures.items ∙ ap (λ bs. bs ++ rest) (map-append given_bound made (y ∷ []))
    ∙ append_assoc (map given_bound made) (given_bound y ∷ []) rest ∙ ap (λ b. map given_bound made ++ b ∷ rest) same
    ∙ sym (ap (λ gs. map given_bound made ++ map given_bound gs) read) ∙ c.loop-one.invariant
