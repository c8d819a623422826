use Rattle.std.proofs.lemmas.List.{drop_more}
use Rattle.circ_term.proofs.Replaced.{walk_down, walk_off}
use Rattle.circ_term.proofs.node.Term.at.Goals as goal

pub returns-in-None : goal.returns-in-None
returns-in-None c =
    let step = drop_more c.args.path.now c.loop-place.place-index 0 c.loop-place-test.true in
    walk_off c.loop-place.here.now _ _ _ _ step c.in-None.ensures c.loop-place.invariant

pub loop-place-preserved : goal.loop-place-preserved
loop-place-preserved c =
    let step = drop_more c.args.path.now c.loop-place.place-index 0 c.loop-place-test.true in
    walk_down c.loop-place.here.now c.in-Some.arg.now _ _ _ _ step c.in-Some.ensures c.loop-place.invariant
