use Rattle.std.proofs.Common.{ap, ◌∙◌}
use Rattle.circ_proof.specs.Plain.{Equation_link, plain_chains}
use Rattle.circ_proof.proofs.Rows.{equation_plain}
use Rattle.circ_line.proofs.links.equation.Goals as goal

pub returns : goal.returns
returns c =
    equation_plain c.args.number c.args.way c.args.path c.args.terms c.new-conds.result
    ∙ ap (λ cs. Equation_link c.args.number c.args.way c.args.path.items c.args.terms.items (plain_chains cs)) c.new-conds.ensures.items
