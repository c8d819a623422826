use Rattle.circ_block.proofs.Limited.{are_given, are_not_given, numbers_suffice}
use Rattle.circ_block.proofs.derivatives.derivatives_on.Goals as goal

pub unreachable-requires : goal.unreachable-requires
unreachable-requires c =
    numbers_suffice c.args.theory.now c.known.ensures c.args.goal.now c.requires.ready
    (rw (c.in-Err-Numbers.is, c.in-Err-Numbers.field-0-is) at c.derivatives_on.ensures)

pub returns-in-Ok : goal.returns-in-Ok
returns-in-Ok c =
    are_given c.args.theory.now c.known.ensures c.args.goal.now c.requires.ready c.in-Ok.derived (rw c.in-Ok.is at c.derivatives_on.ensures)

pub returns-in-Err-Term : goal.returns-in-Err-Term
returns-in-Err-Term c =
    rw c.of_term.ensures
    (are_not_given c.args.theory.now c.known.ensures c.args.goal.now c.requires.ready c.in-Err-Term.fault
    (rw (c.in-Err-Term.is, c.in-Err-Term.field-0-is) at c.derivatives_on.ensures))
