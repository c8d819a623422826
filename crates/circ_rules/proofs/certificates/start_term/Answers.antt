use Rattle.std.proofs.Common.{ap, ◌∙◌}
use Rattle.circ_theory.specs.Fresh.{variables_from}
use Rattle.circ_theory.specs.Operators.{operator_of}
use Rattle.circ_rules.proofs.Starting.{start_fits, start_built, built_sorted}
use Rattle.circ_rules.proofs.certificates.start_term.Goals as goal

pub instance-requires : goal.instance-requires
instance-requires c =
    start_fits c.args.theory.now c.args.start.now.place (operator_of c.args.start.now.decl.now) c.requires.start.listed c.args.derivative
    c.requires.hole c.known.ensures c.in-Some.sorts.now c.in-Some.ensures c.as_slice.result.now
    (c.as_slice.ensures.value ∙ c.in_ok-params.ensures ∙ ap (λ k. variables_from k c.in-Some.sorts.now) (c.len.ensures ∙ c.args.start.now.decl.now.args.ok.0))
    c.args.start.now.term c.requires.start.term

pub returns-clause-exact : goal.returns-clause-exact
returns-clause-exact c =
    start_built c.args.theory.now c.args.start.now.place (operator_of c.args.start.now.decl.now) c.requires.start.listed c.args.derivative
    c.requires.hole c.known.ensures c.in-Some.sorts.now c.in-Some.ensures c.as_slice.result.now
    (c.as_slice.ensures.value ∙ c.in_ok-params.ensures ∙ ap (λ k. variables_from k c.in-Some.sorts.now) (c.len.ensures ∙ c.args.start.now.decl.now.args.ok.0))
    c.args.start.now.term c.requires.start.term
    c.instance.result c.instance.ensures

pub returns-clause-well_sorted : goal.returns-clause-well_sorted
returns-clause-well_sorted c =
    built_sorted c.args.theory.now c.args.start.now.place (operator_of c.args.start.now.decl.now) c.requires.start.listed c.args.derivative
    c.requires.hole c.known.ensures c.in-Some.sorts.now c.in-Some.ensures c.as_slice.result.now
    (c.as_slice.ensures.value ∙ c.in_ok-params.ensures ∙ ap (λ k. variables_from k c.in-Some.sorts.now) (c.len.ensures ∙ c.args.start.now.decl.now.args.ok.0))
    c.args.start.now.term c.requires.start.term
    c.instance.result c.instance.ensures
