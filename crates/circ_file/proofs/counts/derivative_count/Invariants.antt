use Rattle.std.proofs.Common.{◌≡◌, ◌+◌, ◌≤◌, ◌==◌, length, drop}
use Rattle.std.specs.List.{filter}
use Rattle.circ_theory.specs.Theory.{Derivative}
use Rattle.circ_file.proofs.counts.derivative_count.Given as goal

abbrev pub invariant-loop-number : goal.invariant-loop-number
invariant-loop-number l = record {
  counted : l.count + length (filter (λ (d : Derivative). d.hole == l.sort) (drop l.number l.theory.derivatives))
      ≡ length (filter (λ (d : Derivative). d.hole == l.sort) l.theory.derivatives);
  few : l.count ≤ l.number;
}
