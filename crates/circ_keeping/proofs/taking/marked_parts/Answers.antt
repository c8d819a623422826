use Rattle.std.proofs.Common.{length, ap, arith}
use Rattle.std.proofs.lemmas.List.{length_push}
use Rattle.circ_keeping.proofs.Parted.{each_more}
use Rattle.circ_keeping.proofs.taking.marked_parts.Goals as goal

pub loop-place-preserved : goal.loop-place-preserved
loop-place-preserved c =
    let at = c.loop-place in
    let parts = at.parts.items in
    let part = c.in_ok-part.part in
    let e = c.in_ok-push.ensures.items in
    record {
      long = omega (arith, ap length e, length_push parts part, at.invariant.long);
      each = each_more c.args.nodes.now c.args.count at.place c.args.marks.now parts c.push.new.self.items part at.invariant.long c.in_ok-part.ensures e at.invariant.each;
    }

pub returns : goal.returns
returns c = record { long = omega (arith, c.loop-place.invariant.long); each = c.loop-place.invariant.each }
