use Rattle.std.proofs.Common.{arith}
use Rattle.circ_show.proofs.SortMarks.{start_more, start_marks}
use Rattle.circ_show.proofs.observed.visible.Goals as goal

pub loop-sort-preserved : goal.loop-sort-preserved
loop-sort-preserved c =
    let l = c.loop-sort in
    let more =
    start_more c.args.theory.now l.marks.items c.push.new.self.items l.sort c.is_hidden.result l.invariant.count l.invariant.start
    c.is_hidden.ensures.hidden c.in_ok-push.ensures.items in
    record { count = more.0; start = more.1 }

pub returns : goal.returns
returns c =
    start_marks c.args.theory.now c.loop-sort.marks.items
    (omega (arith, c.loop-sort-test.false, c.loop-sort.auto.sort-end, c.sort_count-count.ensures.count, c.loop-sort.invariant.count))
    c.loop-sort.invariant.start
