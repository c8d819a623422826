use Rattle.std.proofs.Common.{inr, sym}
use Rattle.circ_theory.specs.Operators.{operator_of}
use Rattle.circ_mixfix.proofs.rules.push_rule.Goals as goal

pub returns : goal.returns
returns c = inr (operator_of c.in-Some.decl.now, c.in-Some-2.rule, sym c.in-Some.ensures, rw c.in-Some-2.is at c.in_ok-rule.ensures, c.in_ok-push.ensures.items)
