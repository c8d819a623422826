use Rattle.std.proofs.Common.{refl}
use Rattle.std.proofs.lemmas.List.{drop_more}
use Rattle.circ_needs.specs.declared.needs.Need.{Need}
use Rattle.circ_needs.proofs.needs.are_in.Goals as goal

pub returns-then-not-has : goal.returns-then-not-has
returns-then-not-has c =
    let zero_need : Need = record { op = 0; arg = 0 } in
    let read = drop_more c.args.needs.now c.loop-need.need-index zero_need c.loop-need-test.true in
    ((λ never. absurd (cc)), (λ h. let all = rw read at (c.loop-need.invariant.1 h) in let y = c.if-not-has.ensures.1 all.0 in absurd (cc)))

pub loop-need-preserved : goal.loop-need-preserved
loop-need-preserved c =
    let zero_need : Need = record { op = 0; arg = 0 } in
    let read = drop_more c.args.needs.now c.loop-need.need-index zero_need c.loop-need-test.true in
    let whole = rw read at c.loop-need.invariant in
    ((λ h. whole.0 (c.if-not-has.ensures.0 refl, h)), (λ h. (whole.1 h).1))
