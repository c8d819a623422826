use Rattle.std.proofs.Common.{map, ap, ◌∙◌}
use Rattle.circ_nodes.specs.Named.{tree_at}
use Rattle.circ_entering.proofs.numbered.Numbered.rules.Goals as goal

pub returns-clause-rules : goal.returns-clause-rules
returns-clause-rules c table nodes h =
    rw (c.as_slice.ensures.value, c.as_slice-2.ensures.value, c.as_slice-3.ensures.value)
    (record { equations = h.equations; patterns = h.patterns; derivatives = h.derivatives; table = h.there })

pub returns-clause-table : goal.returns-clause-table
returns-clause-table c table nodes h = ap (map (tree_at nodes)) c.as_slice-3.ensures.value ∙ h.terms
