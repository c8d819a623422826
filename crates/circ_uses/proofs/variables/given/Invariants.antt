use Rattle.std.proofs.Common.{◌≡◌, ℕ, drop, map}
use Rattle.circ_theory.specs.Variables.{given}
use Rattle.circ_uses.specs.Valuations.{variable_of, bounds_in}
use Rattle.circ_uses.proofs.Keeping.{filled_by}
use Rattle.circ_uses.proofs.variables.given.Given as goal

abbrev pub invariant-loop-term : goal.invariant-loop-term
invariant-loop-term l =
    (n s : ℕ) → filled_by (bounds_in l.values) (map variable_of l.rest) (drop l.term-index l.terms) n s ≡ given (map variable_of l.variables.keys) l.terms n s
