use Rattle.std.proofs.Common.{◌+◌, drop, ap}
use Rattle.circ_term.proofs.Within.{drop_read}
use Rattle.circ_proof.specs.Plain.{plain_link, plain_links}
use Rattle.circ_trace.specs.Used.{link_hypothesis}
use Rattle.circ_trace.proofs.Listing.{one_more}
use Rattle.circ_trace.proofs.used.push_links.Goals as goal

pub loop-link-preserved : goal.loop-link-preserved
loop-link-preserved c =
    let ls = c.args.links.now in
    let i = c.loop-link.link-index in
    let x = c.link-item.result in
    one_more link_hypothesis c.loop-link.numbers.items c.push_link.new.numbers.items _ (plain_link x) (plain_links (drop i ls)) (plain_links (drop (i + 1) ls))
    (ap plain_links (drop_read ls i x c.loop-link-test.true c.link-item.is)) c.in_ok-push_link.ensures c.loop-link.invariant
