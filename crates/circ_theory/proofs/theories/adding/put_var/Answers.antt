use Rattle.std.proofs.Common.{◌∷◌, ◌++◌, [], map, ap, ◌∙◌}
use Rattle.circ_theory.specs.Theory.{declared}
use Rattle.circ_theory.proofs.Declaring.{variable_last}
use Rattle.circ_theory.proofs.theories.adding.put_var.Goals as goal

pub returns-clause-put : goal.returns-clause-put
returns-clause-put c =
    let es = c.args.vars.now.entries in
    let copied = c.in_ok-copy.ensures.items in
    ap (map (λ e. declared e.0.items e.1)) c.in_ok-insert.ensures.entries
    ∙ variable_last (λ k. k.items) es c.in_ok-copy.copy c.args.sort (rw copied c.requires)
    ∙ ap (λ n. map (λ e. declared e.0.items e.1) es ++ declared n c.args.sort ∷ []) copied
