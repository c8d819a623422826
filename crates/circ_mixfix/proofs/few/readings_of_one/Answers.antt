use Rattle.std.proofs.Common.{◌+◌, drop, []}
use Rattle.std.proofs.lemmas.List.{drop_all}
use Rattle.circ_mixfix.specs.Found.{OneRead}
use Rattle.circ_mixfix.proofs.FewSets.{drop_read, one_step, ended, no_one}
use Rattle.circ_mixfix.proofs.few.readings_of_one.Goals as goal

pub loop-term-preserved : goal.loop-term-preserved
loop-term-preserved c =
    let us = c.args.terms.now in
    let e = drop_read us c.loop-term.term-index c.term-item.result c.loop-term-test.true c.term-item.is in
    record {
      enough = one_step c.loop-term.found c.in_ok-found.found c.args.hole c.term-item.result (drop (c.loop-term.term-index + 1) us) us (rw e at c.loop-term.invariant.enough) c.in_ok-found.ensures;
      ordered = c.in_ok-found.ensures.ordered;
    }

pub returns : goal.returns
returns c =
    let us = c.args.terms.now in
    let e = drop_all c.loop-term.term-index us c.loop-term-test.false in
    ended c.loop-term.found (OneRead c.args.hole []) (OneRead c.args.hole us) (no_one c.args.hole) (rw e at c.loop-term.invariant.enough) c.loop-term.invariant.ordered
