use Rattle.std.proofs.Common.{codes}
use Rattle.circ_show.proofs.Steps.{joins, ends}
use Rattle.circ_show.proofs.lines.put_derivative.Goals as goal

pub returns : goal.returns
returns c =
    ends c.extend_from_slice-2.result _ _ _ _ (codes " .\n")
    (joins _ _ _ (codes "derivative ") _ c.in_ok-extend_from_slice.ensures.items c.in_ok-print_derivative.ensures.text)
    c.extend_from_slice-2.ensures.items
