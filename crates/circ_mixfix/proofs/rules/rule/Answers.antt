use Rattle.std.proofs.Common.{◌<◌, arith}
use Rattle.circ_theory.specs.Operators.{operator_of}
use Rattle.circ_mixfix.specs.Symbols.{precedence_of, every}
use Rattle.circ_mixfix.proofs.Below.{symbols_below}
use Rattle.circ_mixfix.proofs.rules.rule.Goals as goal

pub coded-requires-clause-below : goal.coded-requires-clause-below
coded-requires-clause-below c =
    let e = c.precedence-prec.ensures in
    let small : precedence_of (operator_of c.args.decl.now) < every = omega (arith, c.if-prec-ge-EVERY.false, e) in
    rw (c.deref.ensures.value, c.in_ok-symbols.ensures) (symbols_below (operator_of c.args.decl.now) small)
