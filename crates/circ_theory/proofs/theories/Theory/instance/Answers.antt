use Rattle.std.proofs.Common.{sym}
use Rattle.std.specs.List.{slice_get}
use Rattle.circ_term.specs.Subst.{substitution_of}
use Rattle.circ_theory.specs.Observing.{derivative_with}
use Rattle.circ_theory.specs.Fresh.{given_parameters}
use Rattle.circ_theory.proofs.Derived.{few_given, instance_built}
use Rattle.circ_theory.proofs.theories.Theory.instance.Goals as goal

pub plugged-requires-clause-few : goal.plugged-requires-clause-few
plugged-requires-clause-few c =
    few_given c.args.self.now c.known.ensures c.args.derivative (derivative_with c.in-Some.observer.now.hole c.in-Some.observer.now.term)
    c.args.params.now c.args.term.now (sym c.in-Some.ensures.derivative) c.requires

pub returns : goal.returns
returns c =
    instance_built (slice_get c.args.self.now.derivatives c.args.derivative)
    (derivative_with c.in-Some.observer.now.hole c.in-Some.observer.now.term) c.args.term.now (given_parameters c.args.params.now) (substitution_of c.in_ok-subst.subst) _ c.in-Some.ensures.derivative c.in_ok-subst.ensures c.apply.ensures
