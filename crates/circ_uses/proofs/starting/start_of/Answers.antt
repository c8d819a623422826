use Rattle.std.proofs.Common.{◌∙◌, arith}
use Rattle.circ_theory.specs.Operators.{operator_of}
use Rattle.circ_uses.proofs.Beginning.{start_made}
use Rattle.circ_uses.proofs.starting.start_of.Goals as goal

pub start_parameters-requires : goal.start_parameters-requires
start_parameters-requires c = omega (arith, c.requires, c.len.ensures, c.args.decl.now.args.ok.0)

pub returns : goal.returns
returns c =
    let h = c.in_ok-held.held.value in
    start_made c.on_one.result c.args.theory.now (operator_of c.args.decl.now) c.args.place c.args.derivative h.number c.in_ok-params.params h.params.value
    c.in_ok-inner.inner c.len.result c.in_ok-held.ensures.number c.in_ok-held.ensures.params c.in_ok-inner.ensures c.in_ok-params.ensures
    (c.len.ensures ∙ c.args.decl.now.args.ok.0) c.on_one.ensures
