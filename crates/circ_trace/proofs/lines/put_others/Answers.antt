use Rattle.std.proofs.Common.{◌+◌, ℕ, List, drop, get_or}
use Rattle.std.proofs.lemmas.List.{drop_more}
use Rattle.circ_trace.specs.TurnText.{further_hypothesis}
use Rattle.circ_trace.proofs.Listing.{one_more}
use Rattle.circ_trace.proofs.lines.put_others.Goals as goal

pub loop-number-preserved : goal.loop-number-preserved
loop-number-preserved c =
    let ns : List ℕ = c.args.numbers.now in
    let i = c.loop-number.number-index in
    one_more further_hypothesis c.loop-number.out.items c.put_other.new.out.items _ (get_or ns i 0) (drop i ns) (drop (i + 1) ns) (drop_more ns i 0 c.loop-number-test.true)
    c.in_ok-put_other.ensures c.loop-number.invariant
