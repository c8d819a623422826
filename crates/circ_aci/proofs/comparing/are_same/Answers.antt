use Rattle.std.proofs.Common.{◌∙◌, ap}
use Rattle.std.specs.Ordering.{is_eq}
use Rattle.circ_aci.proofs.Finding.{lists_told}
use Rattle.circ_aci.proofs.comparing.are_same.Goals as goal

pub returns : goal.returns
returns c = lists_told c.args.a.now c.args.b.now c.is_eq.result (c.is_eq.ensures ∙ ap is_eq c.cmp_all.ensures)
