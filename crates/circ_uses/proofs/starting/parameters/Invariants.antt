use Rattle.std.proofs.Common.{◌≡◌, ℕ, ◌+◌, drop, map}
use Rattle.circ_term.specs.Tree.{sort_of}
use Rattle.circ_theory.specs.Fresh.{given_parameters}
use Rattle.circ_theory.specs.Variables.{numbered}
use Rattle.circ_uses.specs.Valuations.{bounds_in}
use Rattle.circ_uses.proofs.Keeping.{filled_by}
use Rattle.circ_uses.proofs.starting.parameters.Given as goal

abbrev pub invariant-loop-term : goal.invariant-loop-term
invariant-loop-term l = record {
  next : l.number ≡ l.term-index + 1;
  same : (n s : ℕ) → filled_by (bounds_in l.values) (numbered l.number (map sort_of (drop l.term-index l.terms))) (drop l.term-index l.terms) n s
      ≡ given_parameters l.terms n s;
}
