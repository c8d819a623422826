use Rattle.std.proofs.Common.{◌≡◌, ◌++◌, map}
use Rattle.circ_term.proofs.bindings.Subst.terms.Given as goal

abbrev pub invariant-loop-term : goal.invariant-loop-term
invariant-loop-term l = l.terms.items ++ l.term-iterator ≡ map (λ b. b.term) l.self
