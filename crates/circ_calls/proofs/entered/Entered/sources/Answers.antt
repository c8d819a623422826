use Rattle.std.proofs.Common.{map, ap, ◌∙◌}
use Rattle.circ_proof.specs.Link.{setting}
use Rattle.circ_nodes.specs.Named.{tree_at}
use Rattle.circ_shared.specs.Patterns.{goal_at, pairs_at}
use Rattle.circ_calls.proofs.entered.Entered.sources.Goals as goal

pub returns-clause-shared : goal.returns-clause-shared
returns-clause-shared c table nodes H A h =
    rw (c.as_slice.ensures.value, c.as_slice-2.ensures.value, c.as_slice-3.ensures.value)
    (record { equations = h.numbered.equations; patterns = h.numbered.patterns; hypotheses = h.patterns; table = h.numbered.there })

pub returns-clause-table : goal.returns-clause-table
returns-clause-table c table nodes H A h = ap (map (tree_at nodes)) c.as_slice-3.ensures.value ∙ h.numbered.terms

pub returns-clause-setting : goal.returns-clause-setting
returns-clause-setting c table nodes H A h =
    let th = c.args.theory.now in
    let G = c.args.gamma.now in
    let E = pairs_at nodes c.args.self.now.assumptions.items in
    ap (λ ps. setting th G (map (goal_at nodes) ps) E) c.as_slice-2.ensures.value ∙ ap (λ K. setting th G K E) h.hypotheses ∙ ap (setting th G H) h.assumptions
