use Rattle.std.proofs.Common.{◌≡◌, ◌||◌, ℕ, nat_eq, map, drop}
use Rattle.std.specs.List.{list_any}
use Rattle.circ_theory.specs.Occurring.{variable_of}
use Rattle.circ_reports.proofs.fresh.numbers_of.Given as goal

abbrev pub invariant-loop-variable : goal.invariant-loop-variable
invariant-loop-variable l =
    (n : ℕ) → (list_any (nat_eq n) l.numbers.keys || list_any (nat_eq n) (map (λ v. v.number) (map variable_of (drop l.variable-index l.variables))))
    ≡ list_any (nat_eq n) (map (λ v. v.number) (map variable_of l.variables))
