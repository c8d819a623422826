use Rattle.std.proofs.Common.{[], ◌∷◌, sym, ◌∙◌}
use Rattle.circ_mixfix.specs.Found.{RightRead}
use Rattle.circ_mixfix.proofs.FewSets.{enough_two, keeps_same, one_right, keeps_right}
use Rattle.circ_mixfix.proofs.few.with_pair.Goals as goal

pub returns-then-is_full : goal.returns-then-is_full
returns-then-is_full c = enough_two c.args.found (RightRead c.args.left.now (c.args.right.now ∷ [])) (c.is_full.ensures c.if-is_full.true) c.requires

pub returns-then-sort : goal.returns-then-sort
returns-then-sort c =
    keeps_same c.args.found (RightRead c.args.left.now (c.args.right.now ∷ [])) c.requires
    (λ ts h. c.if-sort.true (c.sort.ensures ∙ sym (one_right c.args.left.now c.args.right.now ts h).0 ∙ sym c.sort-2.ensures))

pub returns : goal.returns
returns c =
    keeps_right c.args.found c.with_reading.result c.args.left.now c.args.right.now c.in_ok-reading.reading (sym c.sort-2.ensures ∙ sym c.if-sort.false ∙ c.sort.ensures)
    c.in_ok-reading.ensures c.with_reading.ensures
