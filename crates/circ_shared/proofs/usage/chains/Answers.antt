use Rattle.std.proofs.Common.{ap, ◌∙◌, sym}
use Rattle.circ_proof.specs.Plain.{chains_in, plain_link, plain_chains}
use Rattle.circ_proof.proofs.Rows.{equation_plain, hypothesis_plain}
use Rattle.circ_shared.proofs.usage.chains.Goals as goal

pub returns-in-Equation : goal.returns-in-Equation
returns-in-Equation c =
    let e = c.in-Equation in
    ap plain_chains c.as_slice.ensures.value ∙ sym (ap (λ l. chains_in (plain_link l)) e.is ∙ ap chains_in (equation_plain e.number e.way e.path e.terms e.conds))

pub returns-in-Hypothesis : goal.returns-in-Hypothesis
returns-in-Hypothesis c =
    let e = c.in-Hypothesis in
    ap plain_chains c.as_slice-in-Hypothesis.ensures.value
    ∙ sym (ap (λ l. chains_in (plain_link l)) e.is ∙ ap chains_in (hypothesis_plain e.number e.way e.path e.terms e.conds))
