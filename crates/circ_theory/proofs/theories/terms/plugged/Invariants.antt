use Rattle.std.proofs.Common.{◌≡◌, ◌≤◌, ◌+◌, ℕ, None, unwrap_or, drop, map}
use Rattle.circ_term.specs.Tree.{sort_of}
use Rattle.circ_term.specs.Subst.{found}
use Rattle.circ_pairs.specs.Variables.{given, numbered}
use Rattle.circ_theory.specs.Experiment.{plug}
use Rattle.circ_theory.specs.Fresh.{given_parameters}
use Rattle.circ_theory.proofs.theories.terms.plugged.Given as goal

abbrev pub invariant-loop-i : goal.invariant-loop-i
invariant-loop-i l = record {
  same : (n k : ℕ) → unwrap_or (found l.subst n k) (given (numbered (l.i + 1) (map sort_of (drop l.i l.params))) (drop l.i l.params) n k)
      ≡ plug l.hole l.term (given_parameters l.params) n k;
  fresh : (n k : ℕ) → l.i + 1 ≤ n → found l.subst n k ≡ None;
}
