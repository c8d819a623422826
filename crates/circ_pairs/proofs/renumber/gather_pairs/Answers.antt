use Rattle.std.proofs.Common.{◌+◌, map, drop, ap, ◌∙◌}
use Rattle.circ_term.proofs.Within.{drop_read}
use Rattle.circ_pairs.specs.Pairs.{plain_pair}
use Rattle.circ_pairs.specs.Variables.{seen_in, seen_in_pairs}
use Rattle.circ_pairs.proofs.renumber.gather_pairs.Goals as goal

pub loop-pair-preserved : goal.loop-pair-preserved
loop-pair-preserved c =
    let p = c.pair-item.result in
    let read = drop_read c.args.pairs.now c.loop-pair.pair-index p c.loop-pair-test.true c.pair-item.is in
    let rest = map plain_pair (drop (c.loop-pair.pair-index + 1) c.args.pairs.now) in
    ap (seen_in_pairs rest) (c.in_ok-gather-2.ensures ∙ ap (seen_in p.right) c.in_ok-gather.ensures) ∙ (rw read at c.loop-pair.invariant)
