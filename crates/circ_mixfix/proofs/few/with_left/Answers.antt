use Rattle.std.proofs.Common.{◌+◌, drop, []}
use Rattle.std.proofs.lemmas.List.{drop_all}
use Rattle.circ_chart.specs.Few.{Or}
use Rattle.circ_mixfix.specs.Found.{In, RightRead}
use Rattle.circ_mixfix.proofs.FewSets.{drop_read, right_step, ended, no_right}
use Rattle.circ_mixfix.proofs.few.with_left.Goals as goal

pub loop-right-preserved : goal.loop-right-preserved
loop-right-preserved c =
    let us = c.args.rights.now in
    let left = c.args.left.now in
    let e = drop_read us c.loop-right.right-index c.right-item.result c.loop-right-test.true c.right-item.is in
    record {
      enough = right_step c.loop-right.found c.in_ok-found.found left c.right-item.result (drop (c.loop-right.right-index + 1) us) (Or (In c.args.found) (RightRead left us))
          (rw e at c.loop-right.invariant.enough) c.in_ok-found.ensures;
      ordered = c.in_ok-found.ensures.ordered;
    }

pub returns : goal.returns
returns c =
    let us = c.args.rights.now in
    let left = c.args.left.now in
    let e = drop_all c.loop-right.right-index us c.loop-right-test.false in
    ended c.loop-right.found (RightRead left []) (Or (In c.args.found) (RightRead left us)) (no_right left) (rw e at c.loop-right.invariant.enough) c.loop-right.invariant.ordered
