use Rattle.std.proofs.Common.{◌≡◌, ◌<◌, length, sym, ◌∙◌, ap, arith}
use Rattle.circ_reports.specs.Expand.{numbers_in}
use Rattle.circ_reports.proofs.FreshNumbers.{room, more_free, few_more, first_free}
use Rattle.circ_reports.proofs.fresh.free_numbers.Goals as goal

pub loop-free-smaller : goal.loop-free-smaller
loop-free-smaller c =
    let i = c.loop-free.invariant in
    let l : length c.loop-free.free.items < c.args.count = omega (arith, c.loop-free-test.true, c.len.ensures) in
    let r = room c.args.goal.now c.loop-free.number c.args.count c.loop-free.free.items i.free l i.below in
    omega (arith, r, c.in_ok-number.ensures)

pub loop-free-preserved : goal.loop-free-preserved
loop-free-preserved c =
    let i = c.loop-free.invariant in
    let l : length c.loop-free.free.items < c.args.count = omega (arith, c.loop-free-test.true, c.len.ensures) in
    let r = room c.args.goal.now c.loop-free.number c.args.count c.loop-free.free.items i.free l i.below in
    let h = c.in_ok-put_free.ensures in
    record {
      free = more_free c.args.goal.now c.args.taken.now.keys c.requires c.loop-free.number c.in_ok-number.number c.loop-free.free.items
          c.put_free.new.free.items c.in_ok-number.ensures i.free h;
      few = few_more c.args.taken.now.keys c.loop-free.number c.args.count c.loop-free.free.items c.put_free.new.free.items l h;
      below = omega (arith, r, c.in_ok-number.ensures);
    }

pub returns : goal.returns
returns c =
    let i = c.loop-free.invariant in
    let all : length c.loop-free.free.items ≡ c.args.count = omega (arith, c.loop-free-test.false, c.len.ensures, i.few) in
    i.free ∙ sym (first_free (numbers_in c.args.goal.now) c.loop-free.number _ c.args.count i.below (ap length (sym i.free) ∙ all))
