use Rattle.std.proofs.Common.{[], ap, ◌∙◌, unwrap_or}
use Rattle.circ_term.specs.Tree.{sort_of}
use Rattle.circ_theory.specs.Observing.{case_list, cases_of}
use Rattle.circ_link_steps.proofs.Parting.{list_found}
use Rattle.circ_link_steps.proofs.reason_steps.constants.Goals as goal

pub returns-in-Some : goal.returns-in-Some
returns-in-Some c =
    let th = c.args.frame.now.theory.now in
    let s = sort_of c.args.term.now in
    ap (λ o. case_list s (unwrap_or o [])) c.in-Some.ensures ∙ ap (λ k. case_list s (unwrap_or (cases_of th k) [])) c.sort.ensures ∙ list_found s th.cases

pub returns-in-None : goal.returns-in-None
returns-in-None c =
    let th = c.args.frame.now.theory.now in
    let s = sort_of c.args.term.now in
    ap (λ o. case_list s (unwrap_or o [])) c.in-None.ensures ∙ ap (λ k. case_list s (unwrap_or (cases_of th k) [])) c.sort.ensures ∙ list_found s th.cases
