use Rattle.std.proofs.Common.{◌∙◌, sym, ap, Some}
use Rattle.circ_proof.specs.Plain.{Equation_link, Hypothesis_link, plain_chain, plain_chains, plain_link}
use Rattle.circ_proof.proofs.Rows.{equation_plain, hypothesis_plain}
use Rattle.circ_grammar.specs.Machine.{add_chain}
use Rattle.circ_file.proofs.OpenConds.{chains_push}
use Rattle.circ_file.proofs.conds.with_chain.Goals as goal

pub returns-in-Equation : goal.returns-in-Equation
returns-in-Equation c =
    let x = c.in-Equation in
    let e = ap plain_link x.is ∙ equation_plain x.number x.way x.path x.terms x.conds in
    let pushed = ap plain_chains c.in_ok-push-in-Equation.ensures.items ∙ chains_push x.conds.items c.args.cond in
    ap (λ y. Some y) (equation_plain x.number x.way x.path x.terms c.push.new.self
    ∙ ap (Equation_link x.number x.way x.path.items x.terms.items) pushed)
    ∙ sym (ap (λ l. add_chain l (plain_chain c.args.cond)) e)

pub returns-in-Hypothesis : goal.returns-in-Hypothesis
returns-in-Hypothesis c =
    let x = c.in-Hypothesis in
    let e = ap plain_link x.is ∙ hypothesis_plain x.number x.way x.path x.terms x.conds in
    let pushed = ap plain_chains c.in_ok-push-in-Hypothesis.ensures.items ∙ chains_push x.conds.items c.args.cond in
    ap (λ y. Some y) (hypothesis_plain x.number x.way x.path x.terms c.push-in-Hypothesis.new.self
    ∙ ap (Hypothesis_link x.number x.way x.path.items x.terms.items) pushed)
    ∙ sym (ap (λ l. add_chain l (plain_chain c.args.cond)) e)
