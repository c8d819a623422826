use Rattle.std.proofs.Common.{true}
use Rattle.circ_mixfix.proofs.Printed.{term_printed}
use Rattle.circ_mixfix.proofs.printing.print_derivative.Goals as goal

pub returns-clause-spelled : goal.returns-clause-spelled
returns-clause-spelled c = λ print h. term_printed c.args.theory.now c.known.ensures print true c.args.term.now h
