use Rattle.std.proofs.Common.{◌<◌, length, arith}
use Rattle.circ_term.proofs.Within.{depth_at}
use Rattle.circ_mixfix.proofs.printing.+print.Goals as goal

pub put_further_arguments-put_term-requires : goal.put_further_arguments-put_term-requires
put_further_arguments-put_term-requires t c =
    let h : c.loop-arg.arg-index < length c.args.args.now = omega arith in
    let d = depth_at c.args.args.now c.loop-arg.arg-index c.arg-item.result h c.arg-item.is in
    (omega arith, tt)
