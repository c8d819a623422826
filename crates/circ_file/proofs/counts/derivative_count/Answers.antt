use Rattle.std.proofs.Common.{◌<◌, ◌==◌, ◌∙◌, Bool, true, false, length, arith, sym}
use Rattle.std.specs.List.{filter}
use Rattle.circ_theory.specs.Theory.{Derivative}
use Rattle.circ_file.proofs.Counted.{counted_more}
use Rattle.circ_file.proofs.counts.derivative_count.Goals.{then-takes, else-takes}
use Rattle.circ_file.proofs.counts.derivative_count.Goals as goal

pub loop-number-preserved : goal.loop-number-preserved
loop-number-preserved c =
    let ds = c.args.theory.now.derivatives in
    let i = c.loop-number.number in
    let p : Derivative → Bool = λ d. d.hole == c.args.sort in
    let below : i < length ds = omega (arith, c.loop-number-test.true, c.derivative_count-number-end.ensures.count) in
    elim c.if-takes.branch [
      | then-takes w ↦ record {
        counted = counted_more p ds i c.loop-number.count c.if-takes.count (length (filter p ds)) true below
            (sym w.if-takes.true ∙ c.takes.ensures) c.loop-number.invariant.counted w.count-is;
        few = omega (arith, w.count-is, c.loop-number.invariant.few);
      }
      | else-takes w ↦ record {
        counted = counted_more p ds i c.loop-number.count c.if-takes.count (length (filter p ds)) false below
            (sym w.if-takes.false ∙ c.takes.ensures) c.loop-number.invariant.counted (omega (arith, w.count-is));
        few = omega (arith, w.count-is, c.loop-number.invariant.few);
      }
    ]
