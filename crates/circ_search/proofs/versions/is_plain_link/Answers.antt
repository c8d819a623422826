use Rattle.std.proofs.Common.{◌==◌, length, ap, sym, ◌∙◌}
use Rattle.circ_proof.specs.Plain.{plain_link}
use Rattle.circ_conditional_search.specs.Versions.{is_plain_link}
use Rattle.circ_search.proofs.Bare.{equation_bare, hypothesis_bare}
use Rattle.circ_search.proofs.versions.is_plain_link.Goals as goal

pub returns-in-Equation : goal.returns-in-Equation
returns-in-Equation c =
    c.is_empty.ensures ∙ ap (λ x. length x == 0) c.as_slice.ensures.value
    ∙ equation_bare c.in-Equation.number c.in-Equation.way c.in-Equation.path c.in-Equation.terms c.in-Equation.conds
    ∙ sym (ap (λ l. is_plain_link (plain_link l)) c.in-Equation.is)

pub returns-in-Hypothesis : goal.returns-in-Hypothesis
returns-in-Hypothesis c =
    c.is_empty-in-Hypothesis.ensures ∙ ap (λ x. length x == 0) c.as_slice-in-Hypothesis.ensures.value
    ∙ hypothesis_bare c.in-Hypothesis.number c.in-Hypothesis.way c.in-Hypothesis.path c.in-Hypothesis.terms c.in-Hypothesis.conds
    ∙ sym (ap (λ l. is_plain_link (plain_link l)) c.in-Hypothesis.is)
