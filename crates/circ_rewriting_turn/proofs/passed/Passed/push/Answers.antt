use Rattle.std.proofs.Common.{◌∷◌, ap, ◌∙◌}
use Rattle.circ_rewriting_turn.specs.Passed.{plain_passed}
use Rattle.circ_rewriting_turn.proofs.Stood.{passed_push}
use Rattle.circ_rewriting_turn.proofs.passed.Passed.push.Goals as goal

pub returns : goal.returns
returns c =
    ap plain_passed c.in_ok-push.ensures.items ∙ passed_push c.self.inside.pairs.items _
    ∙ ap (λ x. (x, c.in_ok-share-2.field-0) ∷ plain_passed c.self.inside.pairs.items) c.in_ok-share.ensures.same
    ∙ ap (λ x. (c.args.left.now, x) ∷ plain_passed c.self.inside.pairs.items) c.in_ok-share-2.ensures.same
    ∙ ap (λ x. (c.args.left.now, c.args.right.now) ∷ x) c.self.view_is
