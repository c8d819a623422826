use Rattle.std.proofs.Common.{◌+◌, drop, []}
use Rattle.std.proofs.lemmas.List.{drop_all}
use Rattle.circ_mixfix.specs.Found.{BothRead}
use Rattle.circ_mixfix.proofs.FewSets.{drop_read, both_step, ended, no_both}
use Rattle.circ_mixfix.proofs.few.readings_of_both.Goals as goal

pub loop-left-preserved : goal.loop-left-preserved
loop-left-preserved c =
    let us = c.args.lefts.now in
    let e = drop_read us c.loop-left.left-index c.left-item.result c.loop-left-test.true c.left-item.is in
    record {
      enough = both_step c.loop-left.found c.in_ok-found.found c.left-item.result (drop (c.loop-left.left-index + 1) us) c.args.rights.now (BothRead us c.args.rights.now)
          (rw e at c.loop-left.invariant.enough) c.in_ok-found.ensures;
      ordered = c.in_ok-found.ensures.ordered;
    }

pub returns : goal.returns
returns c =
    let us = c.args.lefts.now in
    let e = drop_all c.loop-left.left-index us c.loop-left-test.false in
    ended c.loop-left.found (BothRead [] c.args.rights.now) (BothRead us c.args.rights.now) (no_both c.args.rights.now) (rw e at c.loop-left.invariant.enough) c.loop-left.invariant.ordered
