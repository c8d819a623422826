use Rattle.std.proofs.Common.{ap, ◌∙◌}
use Rattle.circ_theory.specs.Rewriting.{by_terms}
use Rattle.circ_theory.specs.Variables.{given, sorted, variables_of}
use Rattle.circ_expansion.specs.Followed.{goal_in}
use Rattle.circ_tasks.specs.Tasks.{target_of}
use Rattle.circ_uses.specs.Valuations.{by_of}
use Rattle.circ_uses.proofs.Holes.{same_by}
use Rattle.circ_link_steps.proofs.link_steps.given_by.Goals as goal

pub returns : goal.returns
returns c =
    let fr = c.args.frame.now in
    let ts = c.args.terms.now in
    let q = goal_in (target_of fr c.args.target).history in
    ap by_of c.in_ok-new.ensures.ok
    ∙ same_by (by_of c.in_ok-by.by) (by_terms q ts) (λ n s. c.in_ok-by.ensures n s ∙ c.in_ok-values.ensures n s
    ∙ ap (λ vs. given vs ts n s) (c.in_ok-variables.ensures ∙ ap (λ g. sorted (variables_of g)) c.goal.ensures))
