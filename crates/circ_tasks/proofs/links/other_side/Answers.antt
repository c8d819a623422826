use Rattle.std.proofs.Common.{◌≡◌, ap, subst, ◌∙◌, map}
use Rattle.circ_term.specs.Tree.{Tree}
use Rattle.circ_term.specs.Limits.{Builds}
use Rattle.circ_term.specs.Substitution.{Substitution, instance}
use Rattle.circ_theory.specs.Theory.{goal as goal_with, sides}
use Rattle.circ_theory.specs.Pairs.{plain_pair}
use Rattle.circ_theory.specs.Rewriting.{by_terms, to_side}
use Rattle.circ_theory.specs.Variables.{given}
use Rattle.circ_theory.specs.Goal.{Goal}
use Rattle.circ_uses.specs.Valuations.{by_of}
use Rattle.circ_uses.proofs.Holes.{same_by}
use Rattle.circ_tasks.proofs.links.other_side.Goals as goal

pub returns : goal.returns
returns c =
    let q : Goal = goal_with (map plain_pair c.args.conds.now) c.args.left.now c.args.right.now in
    let ts = c.args.terms.now in
    let e : by_of c.in_ok-by.by ≡ by_terms q ts = same_by (by_of c.in_ok-by.by) (by_terms q ts)
    (λ n s. c.in_ok-by.ensures n s ∙ c.in_ok-values.ensures n s ∙ ap (λ vs. given vs ts n s) c.in_ok-variables.ensures) in
    let P : Substitution → Type 0 = λ σ. Builds c.apply.result (instance σ (to_side c.args.way (sides q))) in
    let Q : Tree → Type 0 = λ t. Builds c.apply.result (instance (by_of c.in_ok-by.by) t) in
    subst P e (subst Q c.to_side.ensures c.apply.ensures)
