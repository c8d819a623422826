use Rattle.std.proofs.Common.{◌≡◌, sym, subst}
use Rattle.std.proofs.lemmas.Result.{IfOk-weaker}
use Rattle.circ_pairs.specs.declared.goals.Goal.{Goal}
use Rattle.circ_pairs.specs.Goal.{sides}
use Rattle.circ_pairs.specs.Renumbering.{renumbered}
use Rattle.circ_theory.specs.Theory.{IsWellSortedPair}
use Rattle.circ_theory.proofs.Renumbering.{renumbered_sorted}
use Rattle.circ_theory.proofs.renumber.renumbered.Goals as goal

pub returns-clause-sorted : goal.returns-clause-sorted
returns-clause-sorted c = λ sig k.
    let g : Goal = c.args.goal.now in
    let P : Goal → Type 0 = λ h. IsWellSortedPair sig (sides h) in
    IfOk-weaker c.renumbered.result (λ h. h ≡ renumbered g) (λ h. IsWellSortedPair sig (sides h)) (λ h e. subst P (sym e) (renumbered_sorted sig g k)) c.renumbered.ensures.exact
