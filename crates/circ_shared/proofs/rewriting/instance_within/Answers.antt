use Rattle.std.proofs.Common.{◌≡◌, refl}
use Rattle.circ_term.specs.Limits.{IsWithinLimits}
use Rattle.circ_term.specs.Substitution.{instance}
use Rattle.circ_nodes.specs.Named.{tree_at}
use Rattle.circ_shared.proofs.Sharing.{named_with}
use Rattle.circ_shared.proofs.rewriting.instance_within.Goals as goal

pub returns-in-Ok-clause-gives : goal.returns-in-Ok-clause-gives
returns-in-Ok-clause-gives c = λ σ made.
    let h = c.in-Ok.ensures.interns σ made in
    let u = instance σ (tree_at c.args.nodes.now c.args.pattern) in
    named_with c.instance.new.nodes c.in-Ok.number u h.0 (λ x. (x ≡ u) × IsWithinLimits x) (refl, h.1)
