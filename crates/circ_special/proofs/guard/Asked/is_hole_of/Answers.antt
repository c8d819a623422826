use Rattle.std.proofs.Common.{◌≤◌, arith}
use Rattle.circ_special.proofs.Occurrences.{IsCutAt, cut_at}
use Rattle.circ_special.proofs.guard.Asked.is_hole_of.Goals as goal

pub returns : goal.returns
returns c = (
  (λ never. absurd (cc)),
  (λ h.
      let p = c.args.path.now in
      let cut : IsCutAt c.args.self.now p c.args.body.now = cut_at c.args.self.now p c.args.body.now h in
      let from : c.saturating_sub-first.result ≤ cut.number = omega (arith, cut.late, c.saturating_sub-first.ensures, c.depth.ensures.exact) in
      absurd (c.loop-at.invariant cut.number from (omega (arith, cut.within)) cut.hole)),
)
