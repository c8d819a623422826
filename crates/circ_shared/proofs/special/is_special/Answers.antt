use Rattle.std.proofs.Common.{◌+◌, drop}
use Rattle.std.proofs.lemmas.List.{drop_more}
use Rattle.circ_shared.proofs.special.is_special.Goals as goal

pub returns-in-None : goal.returns-in-None
returns-in-None c =
    let path = c.args.path.now in
    let i = c.loop-place.place-index in
    let step = drop_more path i 0 c.loop-place-test.true in
    ((λ never. absurd (cc)), (λ h. absurd (c.in-None.ensures (drop (i + 1) path) (rw step at (c.loop-place.invariant.rest.1 h)))))
