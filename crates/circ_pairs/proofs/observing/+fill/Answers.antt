use Rattle.std.proofs.Common.{arith}
use Rattle.circ_term.proofs.Within.{drop_read, depth_at}
use Rattle.circ_pairs.specs.Slots.{holes_in, all_holes_in, parameters_in, all_parameters_in, parameter_sorts_in, all_parameter_sorts_in}
use Rattle.circ_pairs.proofs.Filling.{holes_more, parameters_more, parameter_sorts_more, read_more}
use Rattle.circ_pairs.proofs.observing.+fill.Goals as goal

pub fill_all-fill-requires : goal.fill_all-fill-requires
fill_all-fill-requires t c =
    let below = depth_at c.args.terms.now c.loop-term.term-index c.term-item.result c.loop-term-test.true c.term-item.is in
    (omega arith, tt)

pub fill_all-loop-term-preserved : goal.fill_all-loop-term-preserved
fill_all-loop-term-preserved t c =
    let read = drop_read c.args.terms.now c.loop-term.term-index c.term-item.result c.loop-term-test.true c.term-item.is in (
      read_more holes_in all_holes_in holes_more c.args.terms.now c.loop-term.term-index c.term-item.result _ _ _ read c.in_ok-fill.ensures.holes c.loop-term.invariant.0,
      read_more parameters_in all_parameters_in parameters_more c.args.terms.now c.loop-term.term-index c.term-item.result _ _ _ read c.in_ok-fill.ensures.params c.loop-term.invariant.1,
      read_more parameter_sorts_in all_parameter_sorts_in parameter_sorts_more c.args.terms.now c.loop-term.term-index c.term-item.result _ _ _ read c.in_ok-fill.ensures.sorts c.loop-term.invariant.2,
    )
