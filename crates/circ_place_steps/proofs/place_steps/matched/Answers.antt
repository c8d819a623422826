use Rattle.std.proofs.Common.{ap, ◌∙◌}
use Rattle.circ_rewrite.specs.Matching.{matching}
use Rattle.circ_uses.specs.Valuations.{by_of}
use Rattle.circ_uses.proofs.Holes.{same_by}
use Rattle.circ_place_steps.proofs.place_steps.matched.Goals as goal

pub returns : goal.returns
returns c =
    ap by_of c.in_ok-new.ensures.ok
    ∙ same_by (by_of c.in_ok-by.by) (matching c.args.start.now c.args.term.now) (λ n s. c.in_ok-by.ensures n s ∙ c.in_ok-values.ensures n s)
