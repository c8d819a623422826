use Rattle.std.proofs.Common.{ap, ◌∙◌}
use Rattle.circ_proof.specs.Plain.{Hypothesis_link, plain_chains}
use Rattle.circ_proof.proofs.Rows.{hypothesis_plain}
use Rattle.circ_line.proofs.links.hypothesis.Goals as goal

pub returns : goal.returns
returns c =
    hypothesis_plain c.args.number c.args.way c.args.path c.args.terms c.new-conds.result
    ∙ ap (λ cs. Hypothesis_link c.args.number c.args.way c.args.path.items c.args.terms.items (plain_chains cs)) c.new-conds.ensures.items
