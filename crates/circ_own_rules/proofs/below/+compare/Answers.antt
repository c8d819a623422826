use Rattle.std.proofs.Common.{ap, ◌∙◌, arith}
use Rattle.circ_term.proofs.Within.{depth_at}
use Rattle.circ_own_rules.specs.TermOrder.{order_to}
use Rattle.circ_own_rules.proofs.TermOrder.{row_apart, row_on}
use Rattle.circ_own_rules.proofs.below.+compare.Goals as goal

pub compare_all-compare_to-requires : goal.compare_all-compare_to-requires
compare_all-compare_to-requires t c = (omega (arith, depth_at c.args.terms.now c.loop-i.i c.index-terms-i.result (omega arith) c.index-terms-i.is), tt)

pub compare_all-returns-in_default : goal.compare_all-returns-in_default
compare_all-returns-in_default t c =
    row_apart c.args.terms.now c.args.others.now c.loop-i.i c.index-terms-i.result c.compare_to.result (omega arith) c.index-terms-i.is
    (c.compare_to.ensures ∙ ap (order_to c.index-terms-i.result) c.term_at.ensures) c.in_default.not-Equal
    ∙ c.loop-i.invariant

pub compare_all-loop-i-preserved : goal.compare_all-loop-i-preserved
compare_all-loop-i-preserved t c =
    row_on c.args.terms.now c.args.others.now c.loop-i.i c.index-terms-i.result c.compare_to.result (omega arith) c.index-terms-i.is
    (c.compare_to.ensures ∙ ap (order_to c.index-terms-i.result) c.term_at.ensures) c.in-Equal.is
    ∙ c.loop-i.invariant
