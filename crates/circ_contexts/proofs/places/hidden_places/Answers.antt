use Rattle.std.proofs.Common.{◌≡◌, ◌+◌, ◌<◌, ◌≤◌, [], drop, ap, length, arith}
use Rattle.std.proofs.Math.ListN.{drop_of_length-le}
use Rattle.std.specs.List.{slice_get}
use Rattle.circ_special.specs.Special.{IsPlace}
use Rattle.circ_plain_search.specs.Places.{all_places}
use Rattle.circ_contexts.specs.Candidates.{places_at}
use Rattle.circ_contexts.proofs.Adding.{adds_more, adds_last}
use Rattle.circ_contexts.proofs.Listing.{next_operator}
use Rattle.circ_contexts.proofs.places.hidden_places.Goals as goal

pub loop-op-preserved : goal.loop-op-preserved
loop-op-preserved c =
    let th = c.args.theory.now in
    let ops = th.signature.ops in
    let i = c.loop-op.op in
    let within : i < length ops = omega (arith, c.loop-op-test.true, c.op_count-op-end.ensures.count) in
    let z : 0 + i ≡ i = omega arith in
    let next = rw z at (next_operator 0 i ops within) in
    adds_more (IsPlace th) (all_places 0 ops) (all_places i (drop i ops)) (places_at i (slice_get ops i)) (all_places (i + 1) (drop (i + 1) ops)) []
    c.loop-op.places.items c.push_places.new.places.items next c.loop-op.invariant c.in_ok-push_places.ensures

pub returns : goal.returns
returns c =
    let th = c.args.theory.now in
    let ops = th.signature.ops in
    let i = c.loop-op.op in
    let past : length ops ≤ i = omega (arith, c.loop-op-test.false, c.op_count-op-end.ensures.count) in
    adds_last (IsPlace th) (all_places 0 ops) (all_places i (drop i ops)) c.loop-op.places.items (ap (all_places i) (drop_of_length-le ops past))
    c.loop-op.invariant
