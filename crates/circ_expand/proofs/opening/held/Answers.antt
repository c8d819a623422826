use Rattle.std.proofs.Common.{◌≡◌, ap, ◌∙◌}
use Rattle.circ_theory.specs.Fresh.{given_parameters}
use Rattle.circ_entry.specs.Entries.{Numbered, derivative_at}
use Rattle.circ_uses.specs.Uses.{held_by}
use Rattle.circ_uses.specs.Valuations.{valued_by}
use Rattle.circ_uses.proofs.Holes.{same_by}
use Rattle.circ_expand.proofs.opening.held.Goals as goal

pub returns : goal.returns
returns c = λ th.
    let e = c.args.entry.now in
    let same : valued_by c.in_ok-new.field-0.value ≡ given_parameters e.params.items =
    ap valued_by c.in_ok-new.ensures.ok
    ∙ same_by (valued_by c.in_ok-values.values) (given_parameters e.params.items) (λ n s. c.in_ok-values.ensures n s ∙ ap (λ ts. given_parameters ts n s) c.as_slice.ensures.value) in
    ap (held_by th) c.in_ok-new-2.ensures.ok
    ∙ (λ i. let y : Numbered = record { number = e.derivative; entry = record { derivative = derivative_at th e.derivative; parameters = same i } } in y)
