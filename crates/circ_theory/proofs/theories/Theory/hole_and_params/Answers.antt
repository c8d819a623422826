use Rattle.std.proofs.Common.{length, ap, arith}
use Rattle.circ_term.proofs.Limits.{within_limits}
use Rattle.circ_theory.proofs.Linear.{few_holes}
use Rattle.circ_theory.proofs.theories.Theory.hole_and_params.Goals as goal

pub new_slots-requires : goal.new_slots-requires
new_slots-requires c = omega (arith, ap length c.in_ok-slots.ensures.holes, few_holes c.args.term.now, (within_limits c.args.term.now c.known.ensures).0)
