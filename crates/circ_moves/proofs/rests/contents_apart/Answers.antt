use Rattle.std.proofs.Common.{subst, sym, ◌∙◌}
use Rattle.circ_aci.proofs.Settled.{Rises}
use Rattle.circ_moves.proofs.Contents.{content_under_rises}
use Rattle.circ_moves.proofs.rests.contents_apart.Goals as goal

pub set_apart-requires-clause-left : goal.set_apart-requires-clause-left
set_apart-requires-clause-left c =
    subst Rises (sym (c.as_slice.ensures.value ∙ c.in_ok-left.ensures)) (content_under_rises c.args.theory.now.signature c.args.op c.requires.comm c.args.a.now)

pub set_apart-requires-clause-right : goal.set_apart-requires-clause-right
set_apart-requires-clause-right c =
    subst Rises (sym (c.as_slice-2.ensures.value ∙ c.in_ok-right.ensures)) (content_under_rises c.args.theory.now.signature c.args.op c.requires.comm c.args.b.now)
