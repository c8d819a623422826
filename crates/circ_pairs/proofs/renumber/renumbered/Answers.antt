use Rattle.std.proofs.Common.{◌≡◌, sym, subst}
use Rattle.std.proofs.lemmas.Result.{IfOk-weaker}
use Rattle.circ_term.specs.Subst.{substitution_of}
use Rattle.circ_pairs.specs.declared.goals.Goal.{Goal}
use Rattle.circ_pairs.specs.Variables.{IsInOrder}
use Rattle.circ_pairs.specs.Renumbering.{renumbered, instance_goal}
use Rattle.circ_pairs.proofs.Renumbering.{renumbered_in_order}
use Rattle.circ_pairs.proofs.Gathering.{numbered_anew}
use Rattle.circ_pairs.proofs.renumber.renumbered.Goals as goal

pub returns-clause-exact : goal.returns-clause-exact
returns-clause-exact c =
    let g : Goal = c.args.goal.now in
    let σ = substitution_of c.in_ok-subst.subst in
    IfOk-weaker c.instances.result (λ h. h ≡ instance_goal σ g) (λ h. h ≡ renumbered g) (λ h e. numbered_anew g h σ c.in_ok-subst.ensures e) c.instances.ensures

pub returns-clause-in_order : goal.returns-clause-in_order
returns-clause-in_order c =
    let g : Goal = c.args.goal.now in
    let P : Goal → Type 0 = IsInOrder in
    IfOk-weaker c.instances.result (λ h. h ≡ renumbered g) (λ h. IsInOrder h) (λ h e. subst P (sym e) (renumbered_in_order g)) (returns-clause-exact c)
