use Rattle.circ_mixfix.proofs.PrintedSums.{sums_printable}
use Rattle.circ_mixfix.proofs.print_laws.sums_are_printable.Goals as goal

pub returns : goal.returns
returns c = sums_printable
