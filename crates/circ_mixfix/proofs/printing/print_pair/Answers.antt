use Rattle.circ_mixfix.proofs.Printed.{pair_printed}
use Rattle.circ_mixfix.proofs.printing.print_pair.Goals as goal

pub returns-clause-spelled : goal.returns-clause-spelled
returns-clause-spelled c = λ print h k. pair_printed c.args.theory.now c.known.ensures print c.args.left.now c.args.right.now h k
