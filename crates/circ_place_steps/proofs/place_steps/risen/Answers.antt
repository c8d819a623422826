use Rattle.std.proofs.Common.{ap, subst, ◌∙◌}
use Rattle.circ_term.specs.Tree.{Tree}
use Rattle.circ_term.specs.Limits.{Names, first_limit}
use Rattle.circ_term.specs.Substitution.{instance}
use Rattle.circ_expansion.specs.Expand.{layered, risen}
use Rattle.circ_uses.specs.Uses.{layers_of, BuildsLast}
use Rattle.circ_uses.specs.Valuations.{by_of}
use Rattle.circ_uses.specs.declared.by.By.{By}
use Rattle.circ_uses.proofs.Rising.{names_risen}
use Rattle.circ_place_steps.proofs.place_steps.risen.Goals as goal

pub returns-in-Err : goal.returns-in-Err
returns-in-Err c =
    let t = c.args.term.now in
    let P : By → Type 0 = λ b. Names c.in-Err.fault (first_limit (instance (by_of b) t)) in
    names_risen (layers_of c.args.frame.now.theory.now c.args.layers.now) (instance (by_of c.args.call.now.by.value) t) c.in-Err.fault
    (subst P c.deref.ensures c.in-Err.ensures)

pub returns-in-Ok : goal.returns-in-Ok
returns-in-Ok c =
    let xs = layers_of c.args.frame.now.theory.now c.args.layers.now in
    let P : Tree → Type 0 = λ t. BuildsLast c.layered.result (risen xs t) (layered xs t) in
    subst P (c.in-Ok.ensures.0 ∙ ap (λ (b : By). instance (by_of b) c.args.term.now) c.deref.ensures) c.layered.ensures
