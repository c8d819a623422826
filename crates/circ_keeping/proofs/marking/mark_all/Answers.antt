use Rattle.std.proofs.Common.{◌+◌, arith, length, get_or, refl}
use Rattle.circ_keeping.proofs.Marked.{AtFirst, below_read, marks_none, first_more, first_all}
use Rattle.circ_keeping.proofs.marking.mark_all.Goals as goal

pub loop-number-init : goal.loop-number-init
loop-number-init c = marks_none (AtFirst c.args.count c.args.numbers.now 0) c.args.marks.now (λ i p. omega (arith, p.1))

pub mark-requires : goal.mark-requires
mark-requires c =
    let at = c.loop-number in
    let b = below_read c.args.numbers.now at.number-index (c.args.count + length c.args.marks.now) c.requires c.loop-number-test.true in
    omega (arith, b, at.invariant.long)

pub loop-number-preserved : goal.loop-number-preserved
loop-number-preserved c =
    let at = c.loop-number in
    let numbers = c.args.numbers.now in
    first_more c.args.count at.number-index (get_or numbers at.number-index 0) numbers c.args.marks.now at.marks c.mark.new.marks
    c.loop-number-test.true refl at.invariant c.mark.ensures

pub returns : goal.returns
returns c =
    let at = c.loop-number in
    first_all c.args.count at.number-index c.args.numbers.now c.args.marks.now at.marks c.loop-number-test.false at.invariant
