use Rattle.std.proofs.Common.{◌<◌, length, arith}
use Rattle.circ_term.proofs.Within.{depth_at}
use Rattle.circ_theory.proofs.Sorted.{have_sorts_length}
use Rattle.circ_theory.proofs.theories.Theory.+well_sorted.Goals as goal

pub have_sorts-returns-then-terms-sorts : goal.have_sorts-returns-then-terms-sorts
have_sorts-returns-then-terms-sorts t c =
    ((λ never. absurd (cc)), (λ h. let e = have_sorts_length c.args.self.now.signature c.args.terms.now c.args.sorts.now h in absurd (omega arith)))

pub have_sorts-well_sorted-requires : goal.have_sorts-well_sorted-requires
have_sorts-well_sorted-requires t c =
    let h : c.loop-i.i < length c.args.terms.now = omega arith in
    let below = depth_at c.args.terms.now c.loop-i.i c.index-terms-i-in-loop-i.result h c.index-terms-i-in-loop-i.is in
    (omega arith, tt)
