use Rattle.std.proofs.Common.{◌≡◌, ◌∷◌, ◌++◌, flat_map, map, decimal, drop}
use Rattle.circ_reports.proofs.rows.put_steps.Given as goal

abbrev pub invariant-loop-step : goal.invariant-loop-step
invariant-loop-step l =
    l.out.items ++ flat_map (λ w. 46 ∷ w) (map decimal (drop l.step-index l.steps)) ≡ l.fn.out.items ++ flat_map (λ w. 46 ∷ w) (map decimal l.steps)
