use Rattle.circ_special.proofs.Occurrences.{guarded_exact}
use Rattle.circ_special.proofs.guard.Asked.is_guarded.Goals as goal

pub returns : goal.returns
returns c =
    guarded_exact c.args.self.now c.known.ensures c.args.path.now c.is_observed.result (λ h. let never = c.if-on_path.ensures.1 h in absurd (cc))
    c.is_observed.ensures
