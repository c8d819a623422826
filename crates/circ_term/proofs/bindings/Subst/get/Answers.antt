use Rattle.std.proofs.Common.{ap, sym, ◌∙◌}
use Rattle.circ_term.specs.Subst.{found}
use Rattle.circ_term.proofs.Found.{found-lookup}
use Rattle.circ_term.proofs.bindings.Subst.get.Goals as goal

pub returns : goal.returns
returns c =
    c.get.ensures.value
    ∙ sym (found-lookup c.self.inside.terms.entries (record { number = c.args.id; sort = c.args.sort }))
    ∙ ap (λ σ. found σ c.args.id c.args.sort) c.self.view_is
