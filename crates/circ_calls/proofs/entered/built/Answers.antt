use Rattle.std.proofs.Common.{Some, ap, sym}
use Rattle.circ_nodes.proofs.Located.{named_tree}
use Rattle.circ_calls.proofs.entered.built.Goals as goal

pub returns : goal.returns
returns c = rw c.in-Some.is (ap Some (sym (named_tree c.args.nodes.now c.in-Some.number c.in_ok-term.field-0 c.in_ok-term.ensures.named)))
